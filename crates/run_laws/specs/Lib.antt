pub mod Laid
pub mod Together
