-- The laws behind the functions.
pub mod Words
pub mod Sizes
pub mod Classes
