pub mod Cells
pub mod Grids
pub mod Multiples
pub mod OneGrid
pub mod Spans
pub mod Tiles
