pub mod Finds
pub mod Indexing
pub mod Spaces
