pub mod BetweenCalls
pub mod FreeSeats
pub mod PoolOpening
