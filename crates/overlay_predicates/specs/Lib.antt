pub mod Determined
pub mod ExactBuilder
pub mod ExactPaths
pub mod ExactQueries
