pub mod Breaks
pub mod Types
pub mod Expressions
