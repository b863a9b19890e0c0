-- What the crates above may cite: each term is the proof of one clause of `laws`, and is named
-- LAW-CLAUSE after it.
pub use Rattle.trace_replay.proofs.Followers.{at_first as following-first}
pub use Rattle.trace_replay.proofs.Followers.{after_any as following-after}
pub use Rattle.trace_replay.proofs.Followers.{can_come as following-next}
