-- What the clauses of private functions alone speak of.
pub mod Arguments
