-- Request L4 as definitions, in the order in which they are read.
pub mod Hex
pub mod OpcodeNames
pub mod Listing
pub mod Shortest
pub mod Assembling
