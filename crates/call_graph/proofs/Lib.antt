pub mod Seen
pub mod Walks
pub mod Visits
pub mod Turns
pub mod Descents
pub mod Calling
pub mod Stacks
pub mod Searches
