-- The lines of a file.
pub mod Reading
