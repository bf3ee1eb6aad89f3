pub mod Knowing
pub mod Brackets
