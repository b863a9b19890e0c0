pub mod Known
pub mod Preceding
