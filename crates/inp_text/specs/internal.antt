pub mod AddsLine
pub mod FirstItems
pub mod Represents
