mod AddRefused
pub mod Commands
pub mod JournalEnds
pub mod Refusals
pub mod Refusing
pub mod RunEnds
pub mod Sending
pub mod Telling
pub mod Threads
pub mod WorkerEnds
