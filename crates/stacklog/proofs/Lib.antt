-- What is proved of the input that is read.
pub mod Inputs
