-- The rule of the table and of one seat: views, what a step requires and guarantees, and what a seat's data may become without
-- a step.
pub use Rattle.atomic_table.specs.Table
pub mod Accesses
pub mod Actions
pub mod FastPath
pub mod Grants
pub mod Parking
pub mod Props
pub mod Reach
pub mod Rule
pub mod SeenTable
pub mod Seats
pub mod Settled
pub mod Steps
pub mod ValueMut
