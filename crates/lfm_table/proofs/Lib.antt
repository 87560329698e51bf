pub use Rattle.atomic_table.proofs.Lists
pub mod SleepingThreads
pub mod tables
