pub mod Cells
pub mod Covers
