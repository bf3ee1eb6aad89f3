pub mod Steady
pub mod Bodies
pub mod Programs
pub mod Names
