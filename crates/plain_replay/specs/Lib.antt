-- What the contracts of this crate speak of: the room of a reading.
pub mod Room
