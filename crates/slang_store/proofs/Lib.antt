-- Lemmas that the answers cite.
pub mod Storing
pub mod FoundUnder
