-- Words of the contracts inside the crate, which no public clause speaks of.
pub mod Moving
pub mod Rows
