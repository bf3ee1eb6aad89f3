pub mod Repeats
mod Signs
