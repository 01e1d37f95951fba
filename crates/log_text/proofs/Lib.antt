-- What is proved of the text for this crate's functions.
pub mod Blocks
pub mod Texts
pub mod Examples
