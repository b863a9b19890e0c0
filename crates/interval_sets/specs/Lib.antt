pub mod Cuts
pub mod Examples
pub mod internal
pub mod Intervals
pub mod Sets
