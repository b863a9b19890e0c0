-- What the worked examples speak of.
pub mod Network
