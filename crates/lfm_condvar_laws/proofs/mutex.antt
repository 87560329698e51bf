-- How the start of a call and a step of the user mutex change wake words, other seats and the own seat, and runs of them.
pub mod WakeWords
pub mod MutexMoves
pub mod OwnSeat
pub mod MutexRuns
pub mod OwnCalls
