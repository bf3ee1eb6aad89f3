pub mod Knowledge
pub mod OpenBrackets
pub mod Foreseen
pub mod Listed
pub mod Growth
