-- What the clauses of private functions speak of.
pub mod Tasks
