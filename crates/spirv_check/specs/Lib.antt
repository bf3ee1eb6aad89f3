pub mod Entry
pub mod Valid
pub mod Outcomes
