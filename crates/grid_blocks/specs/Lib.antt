pub mod BlockCuts
pub mod GridBoxes
pub mod GridOrder
pub mod GridsOf
