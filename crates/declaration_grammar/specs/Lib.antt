pub mod Tables
pub mod Parts
pub mod PartsDescent
pub mod Declarations
pub mod DeclarationsDescent
