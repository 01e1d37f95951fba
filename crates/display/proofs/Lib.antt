-- What the proofs of the display go by.
pub mod Shown
