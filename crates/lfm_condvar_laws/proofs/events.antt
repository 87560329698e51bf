-- Each event keeps the invariant.
pub mod MutexEvents
pub mod LockEvents
pub mod AppendEvent
pub mod ClaimEvent
