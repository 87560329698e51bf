-- Starvation freedom: how many rounds pass before a counted seat is pushed, before its record leaves the queue, outside of
-- holds and whatever owners begin, and before the seat holds.
pub mod Asking
pub mod BeforePush
pub mod CarrierSteps
pub mod Carriers
pub mod Collecting
pub mod Events
pub mod FairRounds
pub mod FullRounds
pub mod GrantedSeats
pub mod HoldingInRounds
pub mod Holds
pub mod Made
pub mod OtherSteps
pub mod OwnSteps
pub mod OwnerEvents
pub mod OwnerNeeds
pub mod OwnerSteps
pub mod PushBudgets
pub mod QueuedSeats
pub mod Runs
pub mod Slack
pub mod TriedPosts
pub mod Waits
pub mod Weights
