pub mod Tables
pub mod AttributeTables
pub mod Attributes
pub mod AttributeRules
pub mod AttributesDescent
pub mod Statements
pub mod LocalsAhead
pub mod StatementsDescent
