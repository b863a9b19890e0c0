pub mod Indexed
pub mod Objects
