pub mod Name
pub mod Segment
pub mod Transfer
pub mod Laws
