pub mod Ways
pub mod Feeding
