pub mod runs
pub mod ConditionEnds
pub mod ends
pub mod LawsHeld
pub mod EndedHolds
pub mod TableEvents
pub mod RunTrails
pub mod TableRuns
pub mod TableStates
pub mod Lists
mod SectionEnds
mod BargingEnds
mod TimedTryEnds
mod RoundEnds
