-- What the contracts of this crate speak of: what a replay prints, with the line on standard error,
-- and what is printed from a line on.
pub mod Printed
pub mod Printing
pub mod internal
