-- Lemmas of this crate, over plain values.
pub mod RunVerdicts
pub mod Usages
