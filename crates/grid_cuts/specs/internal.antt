-- What the proofs alone speak of.
pub mod Additions
pub mod Gridded
pub mod NumberOrder
