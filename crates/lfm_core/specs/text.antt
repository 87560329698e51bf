-- Schedules and traces as text, and which events the lines of a schedule are.
pub mod Faults
pub mod Lines
pub mod LineEvents
pub mod Grammar
pub mod Spelling
pub mod Trace
pub mod Replay
pub mod Statuses
