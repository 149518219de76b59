pub mod Commands
pub mod Talk
pub mod Bytes
pub mod Promised
pub mod Laws
pub mod Deeds
pub mod Program
pub mod Worked
