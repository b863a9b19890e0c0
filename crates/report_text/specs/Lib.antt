-- What the contracts of this crate speak of: the lines of reports, one by one, whole reports, and
-- which questions and verdicts are read back from them.
pub mod WrittenLines
pub mod WrittenReports
pub mod Readable
pub mod ReadBack
pub mod internal
