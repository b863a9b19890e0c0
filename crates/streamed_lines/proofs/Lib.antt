-- Lemmas of this crate, over plain values.
pub mod Progress
pub mod KnownProgress
pub mod Finishing
pub mod Performing
pub mod PublicLaws
