pub mod Identity
pub mod Settings
pub mod Table
pub mod Keys
pub mod Laws
