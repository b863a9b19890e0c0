pub mod ListSteps
pub mod WholeSteps
