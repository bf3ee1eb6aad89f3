pub mod Told
pub mod Leading
