-- What is proved of the number form, for this crate's functions and for callers.
pub mod Numbers
