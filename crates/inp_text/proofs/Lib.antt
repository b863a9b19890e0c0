pub mod WordLemmas
pub mod PlaceLemmas
pub mod FirstItem
pub mod Representing
pub mod Belongs
pub mod Members
pub mod Merging
pub mod PublicLaws
