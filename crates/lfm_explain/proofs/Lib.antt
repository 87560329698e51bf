pub mod StepsLeft
pub mod Verdicts
