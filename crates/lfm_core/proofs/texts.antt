-- Lemmas of schedules and traces: how lines are read and spelled, which events they are, and how their results are written.
pub mod Decoding
pub mod LineEvents
pub mod Lines
pub mod Plans
pub mod Queued
pub mod Reading
pub mod Replays
pub mod Runs
pub mod SameSeats
pub mod Spelled
