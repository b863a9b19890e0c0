pub mod PublicLaws
pub mod Standing
