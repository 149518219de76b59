pub mod Whole
pub mod Modulo
pub mod Offset
pub mod Bits
pub mod Rounding
pub mod Direction
pub mod Laws
pub mod Worked
