pub mod Halving
pub mod RowTexts
