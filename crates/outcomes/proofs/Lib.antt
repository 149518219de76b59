pub mod Outcomes
pub mod Asked
pub mod ByValue
pub mod Lent
pub mod Told
pub mod Talks
pub mod Strong
