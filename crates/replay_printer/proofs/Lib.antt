-- Lemmas of this crate, over plain values.
pub mod Messages
pub mod ReadingStops
pub mod FittingRows
pub mod Ready
pub mod Steps
