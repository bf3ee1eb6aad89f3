pub mod Flat
pub mod Ranges
pub mod Pieces
pub mod Lanes
pub mod Operators
