pub mod Slots
pub mod Ours
