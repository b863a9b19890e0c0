-- What the contracts of this crate speak of: how far a replay has come, and what it answers.
pub mod Answers
pub mod Following
pub mod Progress
pub mod Readings
pub mod internal
