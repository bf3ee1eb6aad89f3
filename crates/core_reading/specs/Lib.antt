pub mod Ground
pub mod Programs
pub mod Types
pub mod Frames
pub mod Bodies
pub mod Source
