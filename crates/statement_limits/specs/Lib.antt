pub mod Order
pub mod Rules
pub mod Attributes
pub mod Locals
pub mod Statements
