-- What is proved of texts for this crate's functions.
pub mod Puts
pub mod Texts
