pub mod Determined
pub mod Exact
pub mod One
