-- What the crates above may cite: each term is the proof of one clause of `laws`, and is named
-- LAW-CLAUSE after it.
pub use Rattle.replay_meaning.proofs.Standing.{stands_first as standing-first}
pub use Rattle.replay_meaning.proofs.Standing.{stands_with as standing-with}
pub use Rattle.replay_meaning.proofs.Standing.{state_is as standing-state}
pub use Rattle.replay_meaning.proofs.Standing.{reading_is as standing-reading}
pub use Rattle.replay_meaning.proofs.Standing.{standings_are as standing-standings}
