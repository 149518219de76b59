pub mod Ascii
pub mod Lines
pub mod Grammar
pub mod Printed
pub mod Forms
pub mod Laws
pub mod Worked
