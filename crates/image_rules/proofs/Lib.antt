pub mod Walking
pub mod InOrder
pub mod InBlocks
pub mod Defined
pub mod Wrong
