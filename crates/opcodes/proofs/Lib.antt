-- The laws behind the two functions, and what is proved of the class numbers.
pub mod Every
pub mod Match
pub mod Numbering
