pub mod Outcome
pub mod Strong
pub mod Outcomes
pub mod Asked
pub mod ByValue
pub mod Lent
pub mod Told
pub mod Talks
