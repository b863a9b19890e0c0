-- Lemmas of this crate, over plain values.
pub mod Causes
pub mod DraftSteps
pub mod FaultTexts
pub mod FilesJudged
pub mod Outcomes
pub mod PreparedRanges
pub mod ProveSteps
pub mod PublicLaws
