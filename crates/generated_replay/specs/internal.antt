-- What only the contracts of private functions and the proofs speak of.
pub mod InputLines
