pub mod Lengths
pub mod Callers
pub mod Firsts
pub mod Graphs
