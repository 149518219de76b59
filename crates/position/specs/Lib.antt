pub mod Position
pub mod Profile
pub mod Laws
pub mod Worked
