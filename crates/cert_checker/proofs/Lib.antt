pub mod Accepted
pub mod Entries
pub mod MadeMoments
pub mod Walking
