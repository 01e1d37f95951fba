-- What is proved of the definitions of request L1.
pub mod Sittings
