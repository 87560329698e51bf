-- One user mutex and any number of condition variables, as definitions by cases: their states, their events, the claims and the
-- pushes of wakes, rounds, and the statements of the laws.
pub mod Condvars
pub mod Events
pub mod Stages
pub mod Claims
pub mod Pushes
pub mod Laws
pub mod Rounds
