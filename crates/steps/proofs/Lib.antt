pub mod Ticks
pub mod Slots
pub mod Heard
pub mod Received
pub mod Passes
