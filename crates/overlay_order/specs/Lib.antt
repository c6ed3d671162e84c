pub mod Content
pub mod Counts
pub mod EdgeData
pub mod Gathered
pub mod Neighbours
pub mod Parting
pub mod Paths
pub mod Vectors
