pub mod Words
pub mod Popped
