pub mod Holding
pub mod Passing
pub mod Refusing
pub mod Telling
