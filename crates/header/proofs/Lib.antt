-- What is proved of the definitions for this crate's functions and for callers.
pub mod Entries
pub mod Fields
pub mod Fragments
