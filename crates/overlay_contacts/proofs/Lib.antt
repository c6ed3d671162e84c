pub mod EdgeSides
pub mod ExactRelations
pub mod GivenContacts
pub mod ScaledClosures
pub mod SettledRelations
