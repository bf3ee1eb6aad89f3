mod Examples
pub mod Telling
pub mod Moves
pub mod Types
pub mod Operators
pub mod Expressions
pub mod Order
pub mod TypesOrder
pub mod ExpressionsOrder
pub mod Clear
pub mod TypesClear
pub mod ExpressionsClear
