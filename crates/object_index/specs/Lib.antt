-- What the contracts of this crate speak of: names and what they find, and the objects of a
-- network.
pub mod Names
pub mod Objects
pub mod Holding
pub mod examples
pub mod internal
