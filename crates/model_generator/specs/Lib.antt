-- The input file and the trace of the generated model.
pub mod InputFile
pub mod Trace
