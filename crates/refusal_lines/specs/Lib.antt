pub mod Positions
pub mod Pictures
