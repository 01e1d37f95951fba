-- What is proved of the definitions of requests L6, L7 and L8.
pub mod GoodMaps
pub mod BuiltInMap
pub mod UnderEveryMap
pub mod Allowed
pub mod AllowedPapers
pub mod ExaminedMode
pub mod Raising
pub mod ClassicYear
pub mod MapWitnesses
pub mod ExaminedWitnesses
