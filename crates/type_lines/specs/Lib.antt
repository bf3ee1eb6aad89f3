pub mod Asked
pub mod TypeLines
pub mod NameLines
pub mod ValueLines
pub mod CallLines
pub mod StatementLines
pub mod HeadLines
pub mod Classes
