pub mod DecidedLimits
pub mod DecidedPremises
