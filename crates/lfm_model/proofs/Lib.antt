pub mod JournalLists
pub mod JournalSteps
mod JournalTurns
mod LawfulJournals
pub mod Numbers
mod Once
mod ReplayedOps
mod RunLaws
mod StepLaws
pub mod Sums
mod Wanted
