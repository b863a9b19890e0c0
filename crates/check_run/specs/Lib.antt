-- The command `check` by its words, and what it comes to.
pub mod CheckLines
