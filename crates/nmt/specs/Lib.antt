pub mod Entry
pub mod Orders
