pub mod Lexemes
pub mod Tokens
pub mod Weights
pub mod Expressions
pub mod Statements
pub mod Files
pub mod Sums
pub mod Forms
