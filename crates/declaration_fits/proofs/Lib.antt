pub mod Fitting
pub mod Moves
pub mod Parts
pub mod Functions
pub mod Members
pub mod Interfaces
pub mod Files
