pub mod AcceptedEntries
pub mod AcceptedReports
pub mod JudgedSteps
pub mod PublicLaws
