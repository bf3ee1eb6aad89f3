mod Outcomes
pub mod Beside
mod Scanned
mod Scans
