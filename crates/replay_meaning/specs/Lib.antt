-- What the contracts of this crate speak of: what a replay keeps of the rows so far.
pub mod Kept
pub mod Standing
