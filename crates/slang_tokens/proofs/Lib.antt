pub mod Runs
pub mod Values
pub mod Fronts
pub mod Lengths
pub mod Cuts
pub mod Total
