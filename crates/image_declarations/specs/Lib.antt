pub mod Decorations
pub mod Reach
pub mod Types
pub mod Holdings
pub mod Inside
pub mod InsideDeclarations
