pub mod Begins
pub mod Closing
pub mod Ends
pub mod Followed
pub mod Gathered
pub mod ListFacts
pub mod ListedWaits
pub mod Modelled
pub mod OneHold
pub mod Order
pub mod Repeating
pub mod Rule
pub mod Taken
mod TryThenLock
