-- What is proved of lent places for this crate's functions and for callers.
pub mod Places
pub mod Parts
pub mod Counters
pub mod Items
pub mod Sittings
