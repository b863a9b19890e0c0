-- What the crates above may cite in their lemmas, and all that they may. Each term proves the
-- clause of src/laws.rt that its name gives, law and clause, and the answers of those laws are
-- these terms: so no more is cited than a public clause says.
pub use Rattle.curves_series.proofs.TableLines.{names_differ as tables_of_lines-names}
pub use Rattle.curves_series.proofs.TableLines.{lines_of_names as tables_of_lines-lines}
pub use Rattle.curves_series.proofs.PointsRead.{read_points as points_of_tables-points}
