pub mod Bundles
pub mod Changed
pub mod Extents
pub mod Near
pub mod Places
pub mod PointStrips
pub mod Settle
pub mod Strips
