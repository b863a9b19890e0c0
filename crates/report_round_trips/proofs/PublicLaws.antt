-- What the crates above may cite in their lemmas, and all that they may. Each term proves the clause
-- of src/laws.rt that its name gives, law and clause, and the answers of those laws are these terms.
pub use Rattle.report_round_trips.proofs.Counted.{same_completion as written_reports-completion}
pub use Rattle.report_round_trips.proofs.Verified.{text_accepted as written_reports-accepted}
pub use Rattle.report_round_trips.proofs.Verified.{report_verified as written_reports-verified}
