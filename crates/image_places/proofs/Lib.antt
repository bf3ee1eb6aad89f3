pub mod Growing
pub mod Firsts
pub mod Passing
