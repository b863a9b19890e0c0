-- The text of a replay: its lines, how it ends, and the whole text of a trace.
pub mod Ends
pub mod Kept
pub mod Lines
pub mod Replays
pub mod examples
