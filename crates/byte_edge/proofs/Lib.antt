-- Lemmas of this crate, over plain values.
pub mod Writes
pub mod Lists
pub mod LineFeeds
pub mod Lines
pub mod Gathering
pub mod Reports
pub mod Chain
pub mod AllLines
pub mod SlotCalls
pub mod PublicLaws
