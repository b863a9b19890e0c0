-- What the laws of this crate speak of: the counts of verdicts, and which reports are read back.
pub mod VerdictCounts
pub mod ReadableVerdicts
