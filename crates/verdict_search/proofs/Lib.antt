mod Decided
mod Leaves
mod OneCellBlocks
pub mod PublicLaws
mod VerdictStates
