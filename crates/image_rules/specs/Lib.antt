pub mod Order
pub mod Ids
pub mod Blocks
