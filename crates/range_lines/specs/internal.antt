pub mod Ids
pub mod Views
