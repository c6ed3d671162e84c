pub mod EdgeLists
pub mod Held
pub mod Traced
