-- Words of the contracts inside the crate, which no public clause speaks of.
pub mod BlockState
pub mod LineParts
pub mod Gathered
pub mod Reading
