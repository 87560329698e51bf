-- The invariant, the statements of the laws, and the step on a table of packed words.
pub mod steady
pub mod laws
pub mod table
