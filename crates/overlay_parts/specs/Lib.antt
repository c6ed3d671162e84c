pub mod EdgeOrder
pub mod LineParts
pub mod PartedContents
pub mod Parts
pub mod Stores
