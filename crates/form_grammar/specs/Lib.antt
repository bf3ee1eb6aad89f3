pub mod Trees
pub mod Grammar
pub mod Numbers
pub mod Reading
