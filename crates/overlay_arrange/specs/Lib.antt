pub mod Batches
pub mod Cut
pub mod HotPoints
pub mod Meetings
pub mod Parting
pub mod PixelRuns
pub mod Runs
pub mod Snapping
