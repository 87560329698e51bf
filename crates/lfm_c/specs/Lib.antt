pub mod Leaves
pub mod PoolHandles
pub mod Status
