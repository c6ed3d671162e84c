pub mod Answered
pub mod Asked
pub mod AtStarts
mod Balancing
pub mod BelowStarts
mod Bound
mod Descending
mod Distinct
mod EdgesAside
pub mod EntriesByStart
mod Filling
pub mod Found
mod Freshness
mod GoingDown
pub mod LastEntries
pub mod LinesFit
pub mod LiveParts
mod LookedUp
mod Lowering
mod ManyCalls
pub mod Moving
pub mod OneSweep
mod Parted
pub mod Passing
pub mod Prefixes
pub mod PutIn
mod Replaced
mod Rotations
pub mod Searching
mod Settling
mod Standing
pub mod SweptEntries
mod Turned
mod TurningCalls
mod Walks
pub mod WindingsBelow
pub mod WindingsLookedUp
