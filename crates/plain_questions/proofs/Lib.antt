mod LimitSettings
mod Lists
mod OpenCells
pub mod PublicLaws
mod SampleTargets
mod Verdicts
