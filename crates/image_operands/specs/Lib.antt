pub mod Operators
pub mod Memory
pub mod Composites
pub mod Marks
