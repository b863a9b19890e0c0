pub mod Faults
pub mod PublicLaws
