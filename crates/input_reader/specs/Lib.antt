-- What is read of the input file.
pub mod Reading
