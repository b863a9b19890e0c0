-- Lemmas of this crate, over plain values.
pub mod Stops
