-- What the contracts of this crate speak of: what a line of a ranges file states, what its lines
-- state together, what the rules need of it, and the questions of a file that asks none.
pub mod Causes
pub mod Entries
pub mod Lines
pub mod Needs
pub mod Questions
pub mod examples
pub mod internal
