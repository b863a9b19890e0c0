pub mod Blocks
pub mod Judgements
pub mod Trees
pub mod Outcomes
pub mod internal
