pub mod Lexing
pub mod Readings
