-- Case analyses over the points of the mutex: at which point a call of one kind continues.
pub mod Outside
pub mod SendPoints
pub mod WaitPoints
pub mod ReceivePoints
pub mod PushPoints
