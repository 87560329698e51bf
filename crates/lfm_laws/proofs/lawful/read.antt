-- The words and points alone show what the ghost records: queue, claims, place, count and watcher.
pub mod AskingRead
pub mod Chains
pub mod ClaimsRead
pub mod CountRead
pub mod LawfulRead
pub mod PlacesRead
pub mod QueueRead
pub mod Readings
pub mod RecordsRead
pub mod Unwalked
pub mod WatchedRead
