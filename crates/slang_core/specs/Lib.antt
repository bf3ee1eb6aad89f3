pub mod TypeTrees
pub mod EvidenceTrees
pub mod DeclarationTrees
pub mod BodyTrees
pub mod ModuleTrees
