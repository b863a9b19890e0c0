-- Lemmas of this crate, over plain values.
pub mod BlockParts
pub mod FoundCells
pub mod GridFacts
pub mod Nodes
pub mod PublicLaws
pub mod RightVerdicts
pub mod TreesAccepted
