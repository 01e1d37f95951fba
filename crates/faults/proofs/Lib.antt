-- There is a fault exactly where the header is not good; laws for this crate's functions.
pub mod Faults
pub mod Parts
pub mod Words
