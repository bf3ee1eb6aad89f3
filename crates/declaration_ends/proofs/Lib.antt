pub mod Words
pub mod Parts
pub mod Members
pub mod Files
pub mod Wrong
