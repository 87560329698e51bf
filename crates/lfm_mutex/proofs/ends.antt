-- The load of the owner word for `owner`, and what is known when all seats have been joined again.
pub mod Ends
pub mod FreeWords
pub mod OwnerLoads
