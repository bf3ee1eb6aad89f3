pub mod Operands
pub mod Behind
pub mod Changes
pub mod Ahead
pub mod Never
pub mod Parts
pub mod Statements
