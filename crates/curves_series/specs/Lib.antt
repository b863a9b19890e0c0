-- What the contracts of this crate speak of: the tables of the sections [CURVES] and [TIMESERIES],
-- their names, which of them are used, and what is read of them.
pub mod Pairs
pub mod Groups
pub mod Curves
pub mod Series
pub mod Names
pub mod Reading
pub mod Examples
pub mod internal
