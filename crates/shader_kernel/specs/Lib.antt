pub mod Kernel
pub mod Operators
pub mod Actions
pub mod Meaning
pub mod Shader
pub mod Alike
pub mod Extending
