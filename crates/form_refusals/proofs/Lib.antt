pub mod Over
pub mod Codes
pub mod Refused
