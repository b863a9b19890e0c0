-- Lemmas of this crate, over plain values.
pub mod Conclusions
pub mod StageChain
pub mod PublicLaws
