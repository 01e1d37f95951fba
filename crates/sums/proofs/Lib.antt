-- What is proved of sums for this crate's functions.
mod Summing
