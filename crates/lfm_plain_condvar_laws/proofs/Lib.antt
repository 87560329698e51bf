pub mod Ends
pub mod Members
pub mod Order
pub mod Places
