-- What is proved of the definitions in this crate's View, for its functions and for callers.
pub mod Bytes
pub mod Numbers
pub mod Values
pub mod Fronts
pub mod Behind
pub mod Codes
