-- The queue: clearing and collecting, serving its first record, and pushing one at its end.
pub mod Carrying
pub mod ClearedQueue
pub mod Linking
pub mod Popping
pub mod PushedSeats
pub mod Pushers
pub mod Pushing
pub mod Serving
pub mod Walked
pub mod Walking
