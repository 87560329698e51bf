pub mod Adds
pub mod Faults
pub mod Report
pub mod Rows
pub mod Runs
pub mod Statuses
pub mod script
