-- The invariant: functions that change at one number, the ghost, each seat's part of it, the facts, and the outcome of a step.
pub mod Numbered
pub mod Ghost
pub mod Views
pub mod Steady
pub mod EventOutcome
