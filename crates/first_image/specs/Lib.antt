pub mod Source
pub mod Templates
pub mod Sections
pub mod Image
pub mod Emitted
