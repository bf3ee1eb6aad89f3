pub mod Sorts
pub mod Lookups
pub mod Places
pub mod Inside
