pub mod Moments
pub mod Sync
