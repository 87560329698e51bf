pub mod Ranges
pub mod Totals
pub mod Waits
pub mod Tenths
pub mod Broadcasts
pub mod Requests
