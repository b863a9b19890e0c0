-- Lines and small files, worked out by hand.
pub mod Items
pub mod Headings
pub mod Sections
