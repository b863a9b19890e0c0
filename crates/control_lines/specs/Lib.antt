pub mod Clauses
pub mod Faults
pub mod Statements
pub mod Views
pub mod examples
pub mod internal
