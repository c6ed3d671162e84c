pub mod Simplified
pub mod Told
