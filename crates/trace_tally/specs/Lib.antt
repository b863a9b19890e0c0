-- What the contracts of this crate speak of: the rows of a trace, the switches and settings of a
-- replay over them, and what an answer says.
pub mod TraceRows
pub mod Tallies
pub mod Giving
pub mod internal
