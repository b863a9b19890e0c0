-- What the crates above may cite in their lemmas, and all that they may. Each term proves the
-- clause of src/laws.rt that its name gives, law and clause, and the answers of those laws are
-- these terms.
pub use Rattle.verdict_search.proofs.VerdictStates.{no_state as verdicts-holds}
pub use Rattle.verdict_search.proofs.VerdictStates.{refuted_event as verdicts-event}
pub use Rattle.verdict_search.proofs.VerdictStates.{refuted_in_ranges as verdicts-in_ranges}
