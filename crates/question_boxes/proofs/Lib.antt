pub mod Additions
pub mod AskedRules
