mod Actions
mod Branches
mod Conflicts
mod DeadRules
mod KnownCells
mod Limits
mod Lists
mod NumberHulls
mod OpenLimits
mod Plain
pub mod PublicLaws
mod SettledPairs
