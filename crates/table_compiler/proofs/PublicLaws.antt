-- What the crates above may cite in their lemmas, and all that they may. Each term proves the
-- clause of src/laws.rt that its name tells, law and clause, and the answers of those laws are
-- these terms: so no more is cited than a public clause says.
pub use Rattle.table_compiler.proofs.SettledRows.{rows_settle as settled-rows}
pub use Rattle.table_compiler.proofs.SettledRows.{tables_settle as settled-tables}
pub use Rattle.table_compiler.proofs.Readings.{tables_agree as readings-agree}
pub use Rattle.table_compiler.proofs.Readings.{same_read as readings-read}
pub use Rattle.table_compiler.proofs.Readings.{same_reading as readings-reading}
pub use Rattle.table_compiler.proofs.Readings.{same_memory as readings-memory}
pub use Rattle.table_compiler.proofs.FitRows.{tables_fit as fit_rows-fit}
pub use Rattle.table_compiler.proofs.NormalClauses.{tables_normal as normal_clauses-normal}
pub use Rattle.table_compiler.proofs.SortedPlaces.{ranked_moves as ranks-places}
pub use Rattle.table_compiler.proofs.RankedPlaces.{ranked_after as ranks-order}
