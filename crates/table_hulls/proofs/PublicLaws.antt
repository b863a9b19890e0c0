-- What the crates above may cite in their lemmas, and all that they may. Each term proves the
-- clause of src/laws.rt that its name gives, law and clause, and the answers of those laws are
-- these terms: so no more is cited than a public clause says.
pub use Rattle.table_hulls.proofs.HullLaws.{curve_holds as hulls-curve}
pub use Rattle.table_hulls.proofs.HullLaws.{series_holds as hulls-series}
pub use Rattle.table_hulls.proofs.HullLaws.{curve_computed as computed_values-curve}
pub use Rattle.table_hulls.proofs.HullLaws.{series_computed as computed_values-series}
