-- One atomic step: what it does to a seat's own data, and that it keeps the rule of the table and what holds of a seat. How a
-- table opens, and that splitting a seat off and joining it keep the rule.
pub mod ByKind
pub mod CoreFacts
pub mod Actions
pub mod FreshSeats
pub mod Granted
pub mod Numbered
pub mod OneMore
pub mod OneView
pub mod RuleKept
pub mod SeatKept
pub mod ServingSteps
pub mod SettledKept
pub mod SplitsAndJoins
pub mod Started
pub mod Starts
pub mod StepFacts
pub mod FastPathSteps
