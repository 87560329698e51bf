-- The step on a table of packed words.
pub mod Words
pub mod Settles
pub mod Ready
pub mod Carried
