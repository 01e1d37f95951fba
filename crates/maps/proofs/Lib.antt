-- What is proved of maps for this crate's functions and for callers.
pub mod Judging
pub mod ClassRows
pub mod Judged
pub mod Years
