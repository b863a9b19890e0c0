-- What contracts of the crate's own functions see: no public clause cites it.
pub mod Views
pub mod Significands
