pub mod Appended
pub mod CarriedEdges
pub mod DirectionBits
pub mod MovedBack
pub mod PartedValues
pub mod RuledContents
pub mod TakenItems
