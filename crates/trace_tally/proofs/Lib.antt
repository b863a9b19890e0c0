-- Lemmas of this crate, over plain values.
pub mod FirstLines
pub mod FittingRows
pub mod HeaderInputs
pub mod TakenRows
pub mod Changes
pub mod Answers
