pub mod Edges
pub mod Arguments
pub mod Calls
