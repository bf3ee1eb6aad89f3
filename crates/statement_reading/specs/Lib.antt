pub mod Treeless
pub mod Told
pub mod Meant
