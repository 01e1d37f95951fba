-- What is proved of the definitions of document 01.
pub mod MarkedPapers
pub mod SpoiltIndices
pub mod OtherRules
pub mod Replays
pub mod Related
pub mod Arms
pub mod Sound
pub mod Complete
pub mod TrueOfEveryReplay
pub mod TrueOfPaper
pub mod Witnesses
pub mod PrintedPapers
pub mod NumberForm
