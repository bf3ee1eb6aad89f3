pub mod Walked
pub mod Before
