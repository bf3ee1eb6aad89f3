pub mod Loops
pub mod WithinSums
pub mod Shaders
