-- The lemmas that every start of a call and every step keeps a state steady: first the frames, then a file or two for each
-- family of points, and last the theorem over all points.
pub mod frames
pub mod queue
pub mod handoff
pub mod grant
pub mod points
pub mod Begins
pub mod Room
pub mod Start
pub mod StepsKept
