pub mod TypePlans
pub mod ExprPlans
pub mod Needs
