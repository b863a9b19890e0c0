pub mod Times
pub mod internal
