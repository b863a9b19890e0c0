-- Lemmas of this crate, over plain values.
pub mod Causes
pub mod InputJudged
pub mod WholeFiles
pub mod PublicLaws
