-- The laws of whole runs.
pub mod AbstractBridge
pub mod InSchedules
pub mod KeptSteady
pub mod LimitsKept
pub mod PushOrder
pub mod Reached
pub mod RunLaws
pub mod SameSteps
