pub mod Alike
pub mod Operands
pub mod Shaped
