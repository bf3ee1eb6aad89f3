pub mod Loops
pub mod Nested
pub mod Chains
pub mod Digits
