pub mod Given
pub mod Marks
pub mod Told
pub mod Traced
