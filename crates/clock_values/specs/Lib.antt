pub mod Seconds
pub mod Steps
pub mod Windows
pub mod internal
