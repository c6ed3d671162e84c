pub mod OneTelling
pub mod Simplified
pub mod Telling
