pub mod Named
pub mod PrintedTexts
pub mod SeatTexts
pub mod StateLines
