pub mod Results
pub mod Requested
pub mod Held
pub mod Stops
pub mod OneRun
