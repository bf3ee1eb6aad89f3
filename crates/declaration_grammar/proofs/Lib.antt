pub mod PartsSpelled
pub mod Uses
pub mod MembersSpelled
pub mod FilesSpelled
