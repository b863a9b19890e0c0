pub mod Edges
pub mod MergeSteps
