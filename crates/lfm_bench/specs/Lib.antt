pub mod Broadcasts
pub mod Deliveries
pub mod PlainSeats
pub mod PoolCalls
pub mod Quartiles
