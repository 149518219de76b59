pub mod Synchronised
