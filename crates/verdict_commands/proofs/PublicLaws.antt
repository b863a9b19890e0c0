-- What the crates above may use in their lemmas, and all that they may. Each term proves the clause
-- of src/laws.rt that its name gives, law and clause, and the answers of those laws are these terms.
pub use Rattle.verdict_commands.proofs.FaultTexts.{same_line as fault_texts-same}
pub use Rattle.verdict_commands.proofs.ProveSteps.{same_opened as prove_outcomes-opened}
pub use Rattle.verdict_commands.proofs.ProveSteps.{asked_outcome as prove_outcomes-asked}
