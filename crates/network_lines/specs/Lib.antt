pub mod Bounds
pub mod Limits
pub mod Objects
pub mod Options
pub mod Values
pub mod examples
pub mod internal
