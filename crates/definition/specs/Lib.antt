-- Document 01 as definitions, by its sections, in the order in which they are read.
pub mod Basics
pub mod Decoding
pub mod Classes
pub mod Refusals
pub mod Stacks
pub mod Walk
pub mod Replay
pub mod Papers
pub mod Lines
