pub mod Forms
pub mod Refusals
pub mod Fields
pub mod Limits
