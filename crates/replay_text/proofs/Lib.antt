pub mod Going
pub mod June
pub mod OneDigit
pub mod PublicLaws
