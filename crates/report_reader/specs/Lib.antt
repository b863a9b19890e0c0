-- What the contracts of this crate speak of, beside the definitions of reports: entries as they are
-- held, and the line of a fault.
pub mod Answers
pub mod internal
