pub mod Lexing
pub mod Tame
pub mod Viable
pub mod Exact
pub mod Fine
pub mod Loops
pub mod Wrong
pub mod Marks
