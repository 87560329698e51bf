-- Rounds of the user mutex in the model: its events, and the rounds after which a waiter that was sent holds.
pub mod UserMutexEvents
pub mod UserMutexRounds
pub mod SentWaiters
pub mod Made
