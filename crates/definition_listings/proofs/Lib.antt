-- What is proved of the definitions of request L4.
pub mod NameRule
pub mod ListedWords
pub mod ListingsBack
pub mod Listings
