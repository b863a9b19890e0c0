-- Lemmas of this crate, over plain values.
pub mod CellLists
pub mod Sizes
pub mod Joining
pub mod Searching
