-- What the crates above may cite in their lemmas, and all that they may. Each term proves the
-- clause of src/laws.rt that its name tells, law and clause, and the answers of those laws are
-- these terms: so no more is cited than a public clause says.
pub use Rattle.table_run.proofs.LeftSides.{compiled_serve as compiled-serve}
pub use Rattle.table_run.proofs.SettledChoices.{settled_choice as compiled-settle}
pub use Rattle.table_run.proofs.FittingTables.{fit_acts as fitting-acts}
