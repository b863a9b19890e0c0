-- What the contracts of this crate speak of: the pairs that are settled, link by link.
pub mod Settling
pub mod internal
