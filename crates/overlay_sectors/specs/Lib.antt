pub mod Blocks
pub mod Laws
pub mod Located
pub mod Once
pub mod Rays
pub mod Sectors
pub mod Seen
