pub mod Effects
pub mod Replies
