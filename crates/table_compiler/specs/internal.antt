pub mod Filling
pub mod Grouping
pub mod PartPlaces
