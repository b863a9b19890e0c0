-- Lemmas of this crate, over plain values.
pub mod FromRuns
pub mod OfWords
