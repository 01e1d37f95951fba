-- What is proved of the words for this crate's functions.
pub mod Texts
