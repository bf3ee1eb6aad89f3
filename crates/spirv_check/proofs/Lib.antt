pub mod Once
pub mod Names
pub mod Begins
pub mod Groups
