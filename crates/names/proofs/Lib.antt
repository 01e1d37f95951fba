-- The laws behind the functions.
pub mod Tables
