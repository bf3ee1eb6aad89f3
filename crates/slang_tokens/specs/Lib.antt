pub mod Bytes
pub mod Tables
pub mod Words
pub mod Lexemes
pub mod Cutting
