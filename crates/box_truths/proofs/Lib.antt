pub mod Groups
pub mod StepLaws
