-- What the walkers' proofs go by.
pub mod Joins
pub mod Cycle
