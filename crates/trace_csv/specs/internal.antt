-- What only the contracts of private functions and the proofs speak of.
pub mod Filling
pub mod Marking
pub mod PlainNumbers
