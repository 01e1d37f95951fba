-- The laws behind the functions.
pub mod Hex
pub mod Decoded
pub mod Listed
pub mod Named
