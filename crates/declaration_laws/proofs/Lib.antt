pub mod Begins
pub mod Parts
pub mod Functions
pub mod Members
pub mod Interfaces
pub mod Files
