mod BlockCells
mod CellCovers
mod Lists
mod ShownBlocks
pub mod PublicLaws
mod RunOrder
mod Tracked
