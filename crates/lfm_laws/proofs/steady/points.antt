-- One file or two for each family of points: what each step does to the invariant.
pub mod EnterSteps
pub mod GrantSteps
pub mod HandoffSteps
pub mod LockSteps
pub mod PostSteps
pub mod PushExchanges
pub mod PushSteps
pub mod ReceiveSteps
pub mod ReleaseSteps
pub mod SendSteps
pub mod ServeSteps
pub mod TrySteps
