-- The laws, derived from the invariant of the state that a run reaches.
pub mod ClaimsFound
pub mod WaitsSent
pub mod ListOrder
pub mod OneWait
pub mod SleepersListed
pub mod LocksBack
pub mod ListsEmptied
pub mod PushOrder
