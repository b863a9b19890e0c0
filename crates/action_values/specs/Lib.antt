-- What the contracts of this crate speak of: links that actions act on, and what a reading leaves.
pub mod Links
pub mod Readings
