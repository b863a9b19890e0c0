pub mod Networks
pub mod OptionBounds
pub mod PublicLaws
pub mod Starts
pub mod ValueBounds
