mod AddedSums
mod Reports
mod RowCounts
pub mod RunReports
pub mod scripts
