pub mod Standing
pub mod Counts
pub mod Parts
pub mod Zeros
pub mod Replaced
pub mod Lanes
pub mod Growing
