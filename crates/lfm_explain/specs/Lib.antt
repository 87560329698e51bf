pub mod Paths
pub mod Verdicts
