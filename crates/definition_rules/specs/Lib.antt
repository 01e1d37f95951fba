-- Requests L6, L7 and L8 as definitions, in the order in which they are read.
pub mod Allows
pub mod Maps
pub mod Examined
pub mod Years
