pub mod Checked
pub mod Moments
pub mod Number
pub mod Operations
pub mod Order
pub mod Relations
