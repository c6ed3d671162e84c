pub mod Asking
pub mod Bare
pub mod Endings
pub mod OneTelling
pub mod ToldPoints
