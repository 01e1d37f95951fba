pub mod Spans
pub mod Ends
pub mod Packing
pub mod Lengths
