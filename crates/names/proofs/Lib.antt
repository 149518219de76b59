pub mod Segments
pub mod Parts
pub mod Laws
