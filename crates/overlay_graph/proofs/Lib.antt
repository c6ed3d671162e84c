pub mod CountedEnds
pub mod EndSums
pub mod FilledVectors
mod FillsTold
pub mod PlacedEdges
pub mod ReversedCounts
pub mod SideBits
pub mod StartsPushed
pub mod StartsTogether
pub mod Sweepable
mod SweptFills
