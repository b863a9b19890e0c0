-- What the crates above may cite: each term is the proof of one clause of `laws`, and is named
-- LAW-CLAUSE after it.
pub use Rattle.replay_text.proofs.Going.{by_rows as printing-rows, from_first as printing-first}
