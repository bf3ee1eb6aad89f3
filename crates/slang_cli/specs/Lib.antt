pub mod Commands
pub mod Texts
pub mod Answers
pub mod Outside
pub mod Views
pub mod Calls
