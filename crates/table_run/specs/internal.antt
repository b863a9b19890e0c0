-- Words of the contracts inside the crate, which no public clause speaks of.
pub mod Firsts
pub mod PidRules
pub mod Sources
pub mod Truths
