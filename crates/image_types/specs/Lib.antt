pub mod Rules
pub mod Functions
pub mod Parts
pub mod Checking
