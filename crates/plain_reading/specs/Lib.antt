-- What the contracts of this crate speak of: the room that a reading needs, and its answers.
pub mod Answers
pub mod Room
