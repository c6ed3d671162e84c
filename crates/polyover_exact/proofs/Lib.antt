pub mod OneRelation
pub mod OneTelling
pub mod Told
pub mod ToldOne
