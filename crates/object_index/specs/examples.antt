-- Names and objects, worked out by hand.
pub mod Names
pub mod Objects
