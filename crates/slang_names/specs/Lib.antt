pub mod Codes
pub mod FormCodes
pub mod Letters
