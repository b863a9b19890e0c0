-- What the crates above may cite in their lemmas, and all that they may. Each term proves the
-- clause of src/laws.rt that its name gives, law and clause, and the answers of those laws are
-- these terms.
pub use Rattle.plain_questions.proofs.LimitSettings.{limit_decided as limits-decided}
pub use Rattle.plain_questions.proofs.OpenCells.{open_event as events-open}
pub use Rattle.plain_questions.proofs.OpenCells.{shown_exactly as events-exact}
pub use Rattle.plain_questions.proofs.Verdicts.{no_sample as verdicts-open_cell}
pub use Rattle.plain_questions.proofs.Verdicts.{not_undecided as verdicts-decided}
