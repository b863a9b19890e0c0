pub mod Examples
pub mod Pieces
pub mod Sides
pub mod internal
