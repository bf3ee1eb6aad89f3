pub mod Somes
