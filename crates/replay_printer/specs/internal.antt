-- What only the contracts of private functions and the proofs speak of.
pub mod Ends
pub mod Headers
