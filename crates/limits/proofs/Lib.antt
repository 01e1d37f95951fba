-- What the proofs of the limit check go by.
pub mod Operations
