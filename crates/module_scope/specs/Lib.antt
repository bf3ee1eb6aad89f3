pub mod Sees
pub mod Known
pub mod Views
pub mod Innermost
