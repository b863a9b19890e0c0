mod FromZero
mod GivenRanges
mod NeededMoments
pub mod PublicLaws
mod ReadFiles
mod ReadResults
mod StatedEntries
mod TrackedLinks
