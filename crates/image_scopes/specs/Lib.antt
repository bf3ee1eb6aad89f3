pub mod Scopes
pub mod Runs
pub mod Facts
