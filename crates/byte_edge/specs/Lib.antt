-- What the contracts of this crate speak of: devices, lines, and what a reader keeps and answers.
pub mod TextBytes
pub mod Devices
pub mod Lines
pub mod ReaderState
pub mod Answers
pub mod AllLines
pub mod Entries
pub mod MemoryFiles
pub mod MemorySink
pub mod HostFiles
pub mod internal
