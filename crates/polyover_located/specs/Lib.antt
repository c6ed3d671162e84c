pub mod Asked
pub mod Held
pub mod Laws
pub mod Prepared
