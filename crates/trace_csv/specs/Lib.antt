-- What the contracts of this crate speak of: the record of a line, headers with their columns, rows
-- with their inputs, and the causes of faults with their texts.
pub mod Causes
pub mod Columns
pub mod Fields
pub mod Records
pub mod Rows
pub mod examples
pub mod internal
