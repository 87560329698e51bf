pub mod Sharing
pub mod Together
pub mod Workers
