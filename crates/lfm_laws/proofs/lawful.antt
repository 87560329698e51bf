-- What a steady state implies about its words and points alone, and the laws of every schedule.
pub mod read
pub mod states
pub mod runs
pub mod touched
pub mod refusals
pub mod bounds
pub mod rounds
pub mod calls
