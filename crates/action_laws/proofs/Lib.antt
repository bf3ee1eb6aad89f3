pub mod Acts
pub mod Follows
pub mod InBuffers
pub mod Calls
