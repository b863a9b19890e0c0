pub mod Collected
pub mod CutSteps
pub mod FlatRows
pub mod Planned
