pub mod Lexed
pub mod Reading
pub mod Kinds
pub mod Cursor
pub mod Inside
