-- What is printed of a trace that is read line by line.
pub mod Streams
pub mod Printers
pub mod internal
