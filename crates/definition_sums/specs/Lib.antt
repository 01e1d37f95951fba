-- Request L1 as definitions.
pub mod Sums
