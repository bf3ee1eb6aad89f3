pub mod Requests
pub mod Files
pub mod Answers
pub mod Views
