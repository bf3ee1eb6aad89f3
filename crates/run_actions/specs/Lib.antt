pub mod Ranges
pub mod Chains
pub mod Steps
