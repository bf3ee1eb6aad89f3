pub mod Shared
pub mod Dispatch
pub mod Machines
pub mod Parts
pub mod Going
