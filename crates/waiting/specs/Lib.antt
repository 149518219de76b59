pub mod Line
pub mod Places
pub mod Calls
pub mod Worked
pub mod Laws
pub mod Trace
pub mod Plain
