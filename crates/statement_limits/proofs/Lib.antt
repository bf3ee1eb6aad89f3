mod Examples
pub mod Order
pub mod Late
pub mod Attributes
pub mod Locals
pub mod Operands
pub mod Changes
pub mod Parts
pub mod Statements
pub mod AttributesOrder
pub mod LocalsOrder
pub mod StatementsOrder
