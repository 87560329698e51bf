-- The laws of condition variables over the core: the invariant, how steps of the mutex keep it, each event, and the laws of the
-- states that runs reach.
pub mod Tickets
pub mod Invariant
pub mod points
pub mod mutex
pub mod Frames
pub mod Outcomes
pub mod events
pub mod LockMoves
pub mod Pushed
pub mod Runs
pub mod reached
pub mod rounds
