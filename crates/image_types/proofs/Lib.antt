pub mod Walk
pub mod Lengths
pub mod Ends
