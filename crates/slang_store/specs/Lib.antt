pub mod Counts
pub mod Contents
pub mod Answers
pub mod Held
pub mod Room
pub mod Finds
