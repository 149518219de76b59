pub mod Listed
pub mod Found
pub mod Search
pub mod Laws
