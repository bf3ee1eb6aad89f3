pub mod Declarations
pub mod Declares
pub mod Views
pub mod Inside
