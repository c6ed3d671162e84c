pub mod Along
pub mod Asking
pub mod OneArrangement
pub mod OneAsking
