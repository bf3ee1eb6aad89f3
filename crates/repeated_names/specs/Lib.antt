pub mod Twice
pub mod Views
