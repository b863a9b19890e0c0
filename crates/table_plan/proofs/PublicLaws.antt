-- What the crates above may cite in their lemmas, and all that they may. Each term proves the
-- clause of src/laws.rt that its name tells, law and clause, and the answers of those laws are
-- these terms: so no more is cited than a public clause says.
pub use Rattle.table_plan.proofs.ToldRows.{rows_same as told-ordered}
pub use Rattle.table_plan.proofs.PieceOrder.{cut_piece as pieces-cut, cut_above as pieces-below}
pub use Rattle.table_plan.proofs.PieceOrder.{cut_below as pieces-above, piece_most as pieces-most}
