-- What the contracts of this crate speak of: the hulls of the values of curves and series.
pub mod Hulls
pub mod HullExamples
pub mod internal
