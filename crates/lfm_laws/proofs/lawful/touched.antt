-- What a turn touches, and what a step depends on.
pub mod OneWord
pub mod OneSeat
