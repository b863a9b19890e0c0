-- What a replay over files in memory leaves.
pub mod InMemory
