pub mod StatementPlans
pub mod Leading
pub mod HeadPlans
pub mod HeadNeeds
pub mod Containment
pub mod Cores
pub mod Modules
