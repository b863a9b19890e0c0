-- What only the contracts of private functions and the proofs speak of.
pub mod Starting
pub mod Taking
