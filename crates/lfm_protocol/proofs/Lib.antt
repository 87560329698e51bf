pub mod SeatLaws
pub mod Walks
