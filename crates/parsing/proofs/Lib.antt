pub mod Fields
pub mod Forms
pub mod Keys
pub mod Pairs
