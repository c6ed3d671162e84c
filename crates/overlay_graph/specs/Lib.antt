pub mod Arranged
pub mod Ends
pub mod FillTests
pub mod Graphs
pub mod Starts
