-- The laws behind the functions.
pub mod Rows
pub mod Words
