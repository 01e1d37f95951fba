-- What is proved of the lines for this crate's functions.
pub mod Conditionals
pub mod Verdicts
