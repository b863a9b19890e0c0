pub mod Fits
pub mod Inside
pub mod Witnesses
pub mod internal
