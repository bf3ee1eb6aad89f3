pub mod Texts
pub mod Refusals
pub mod Memory
pub mod Parts
pub mod Lines
pub mod Invocations
