-- Proofs: every turn keeps the invariant, the laws follow from it, and a step on packed words is the same step.
pub mod steady
pub mod lawful
pub mod table
