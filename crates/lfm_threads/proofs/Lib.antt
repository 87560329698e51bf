mod Ends
pub mod Places
