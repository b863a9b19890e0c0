-- What the commands on an input file and ranges come to.
pub mod Faults
pub mod Preparing
pub mod Proves
pub mod Verifies
pub mod internal
