mod Examples
pub mod Shared
pub mod Uses
pub mod AttributesSpelled
pub mod LocalsSpelled
pub mod StatementsSpelled
pub mod Begins
pub mod AttributesRead
pub mod LocalsRead
