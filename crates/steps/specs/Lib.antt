pub mod Tick
pub mod Slot
pub mod Sent
pub mod Hear
pub mod Obey
pub mod Passes
