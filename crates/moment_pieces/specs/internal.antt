pub mod Spans
pub mod Starts
pub mod Turns
