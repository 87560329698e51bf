-- The lemmas that an atomic step is one write of a number in the list of words: packing, reads and writes of the list, the
-- theorem over all kinds, and that every number packs exactly. Then: what a seat may become without a step, what it knows about
-- its next step, and what a step does with the moving value.
pub mod Answered
pub mod Exact
pub mod Made
pub mod Narrow
pub mod Packing
pub mod Places
pub mod Reads
pub mod Ready
pub mod ReadyBegins
pub mod Settled
pub mod Spent
pub mod Starts
pub mod Steps
pub mod TableSteps
pub mod Unread
pub mod Values
