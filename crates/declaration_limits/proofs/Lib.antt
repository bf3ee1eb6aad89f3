mod Examples
pub mod Telling
pub mod Parts
pub mod Functions
pub mod Members
pub mod Interfaces
pub mod Files
pub mod PartsOrder
pub mod FunctionsOrder
pub mod MembersOrder
pub mod FilesOrder
