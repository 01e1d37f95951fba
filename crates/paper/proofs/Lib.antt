-- What is proved of the definitions for this crate's functions and for callers.
pub mod Fragments
pub mod Few
pub mod Markings
pub mod WithMap
pub mod LongData
