pub mod Repeats
pub mod Failing
pub mod Choices
pub mod Stands
pub mod Levels
pub mod Between
pub mod Casts
