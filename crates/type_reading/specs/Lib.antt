pub mod Starts
pub mod Limited
pub mod Reads
pub mod Scanning
pub mod Reached
