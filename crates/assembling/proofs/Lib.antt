-- The laws behind the functions.
pub mod Judging
pub mod Assembling
