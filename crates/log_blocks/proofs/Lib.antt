-- What is proved of the rows of a fragment for this crate's functions.
pub mod Rows
