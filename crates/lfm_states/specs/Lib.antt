pub mod Measures
pub mod Counts
pub mod Keys
pub mod Rows
