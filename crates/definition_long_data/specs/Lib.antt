-- Request L3 as definitions.
pub mod Blank
