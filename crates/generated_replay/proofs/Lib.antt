-- Lemmas of this crate, over plain values.
pub mod Sections
pub mod Replays
