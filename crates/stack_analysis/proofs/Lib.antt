-- What the entries' proofs go by.
pub mod Entries
pub mod WithMap
pub mod OneForm
pub mod LongData
