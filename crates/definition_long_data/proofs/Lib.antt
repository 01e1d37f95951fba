-- What is proved of the definitions of request L3.
pub mod LongData
pub mod Blanked
pub mod LongDataWitnesses
