-- How an input file is judged, and what `check` comes to.
pub mod InputRefusals
pub mod Checks
