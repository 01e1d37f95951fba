pub mod Digits
pub mod Decimals
pub mod Ranges
