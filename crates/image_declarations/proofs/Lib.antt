pub mod Behind
pub mod Marked
pub mod Known
