-- What the laws of pools say.
pub mod Mutexes
pub mod RunLaws
pub mod SeatLaws
pub mod StateLaws
pub mod StepLaws
