pub mod Edges
pub mod Unseen
pub mod Order
