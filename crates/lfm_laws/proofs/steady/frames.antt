-- What a step does not change: lists after a write, sums over the seats, the other seats, and the abstract mutex of a ghost.
pub mod Abstracts
pub mod Entries
pub mod Frames
pub mod Histories
pub mod Quiet
pub mod SameSeats
pub mod Seated
pub mod Sums
