-- Grants and coming to hold; wake words, seats that sleep, and seats that a send claims.
pub mod Claimed
pub mod Claiming
pub mod Entering
pub mod FreeGrant
pub mod Granted
pub mod Granting
pub mod Joining
pub mod Standings
pub mod Wakings
