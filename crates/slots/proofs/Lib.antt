pub mod Codes
pub mod Laws
pub mod Joins
pub mod Blanks
