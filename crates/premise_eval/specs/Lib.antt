-- What the contracts of this crate speak of: where values stand, what is kept of a state, and what
-- the kept values are worth.
pub mod Places
pub mod Columns
pub mod Kept
pub mod Stops
pub mod internal
