pub mod Words
pub mod Shaders
pub mod Finding
pub mod Sizes
