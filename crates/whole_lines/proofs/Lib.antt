-- Lemmas of this crate, over plain values.
pub mod LineEvents
pub mod LinesSoFar
