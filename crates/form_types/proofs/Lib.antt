pub mod Conformances
