pub mod Acceptance
pub mod Indexed
pub mod Views
