pub mod Beginnings
pub mod EarlyAnswers
pub mod ExactBuilders
pub mod ExactPaths
pub mod OneExact
pub mod OrderedMerges
pub mod ToldPaths
pub mod WholeArrangements
