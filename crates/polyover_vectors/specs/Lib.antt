pub mod Flattened
pub mod Held
pub mod Vectors
