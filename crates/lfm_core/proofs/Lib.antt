pub mod texts
