-- The commands on an input file alone or with a trace, by their words, and what each comes to.
pub mod ProjectLines
pub mod Words
