-- What the commands on the rules of an input file come to.
pub mod Replays
pub mod Tables
