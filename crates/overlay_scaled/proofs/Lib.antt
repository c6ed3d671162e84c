pub mod AlongALine
pub mod AlongPieces
pub mod BesidePieces
pub mod CrossedLines
pub mod ExactArrangements
mod Factors
pub mod MergedLists
mod Middles
pub mod OnChains
pub mod OnTests
pub mod OneWinding
pub mod Pieces
pub mod PastPlaces
pub mod PlainContacts
pub mod PlainPoints
pub mod PlainRelations
pub mod PlainRules
mod Products
mod SameLinks
pub mod ScaledLists
pub mod ScaledMeetings
pub mod ScaledMerged
pub mod ScaledPoints
pub mod ScaledRelations
pub mod ThroughRounds
pub mod WholeScales
