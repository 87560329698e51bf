-- The laws of refusals.
pub mod Beginnings
pub mod BusyMoments
pub mod BusyTries
pub mod OutsideSteps
pub mod PlainSteps
pub mod RefusedCalls
pub mod RefusedSteps
pub mod RefusedTurns
