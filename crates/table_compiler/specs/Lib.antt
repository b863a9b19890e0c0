-- What the contracts of this crate speak of: the table of each link, what it orders, and its text.
pub mod Clauses
pub mod Examples
pub mod Meaning
pub mod Parts
pub mod Rows
pub mod TableText
pub mod internal
