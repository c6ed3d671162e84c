pub mod Added
pub mod Answering
pub mod AsCalls
pub mod Bare
pub mod Making
pub mod OneAsking
