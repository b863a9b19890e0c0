pub mod Columns
pub mod Ends
pub mod internal
pub mod Pieces
pub mod Plan
pub mod PlanRows
pub mod Told
