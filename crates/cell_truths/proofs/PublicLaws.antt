-- What the crates above may cite in their lemmas, and all that they may. Each term proves the
-- clause of src/laws.rt that its name gives, law and clause, and the answers of those laws are
-- these terms.
pub use Rattle.cell_truths.proofs.GridCells.{state_in_cell as cells-inside}
pub use Rattle.cell_truths.proofs.LimitPieces.{limit_piece as pieces-limit}
pub use Rattle.cell_truths.proofs.NoStops.{no_stop as questions-no_stop}
pub use Rattle.cell_truths.proofs.PremiseTruths.{decided as cells-decided}
pub use Rattle.cell_truths.proofs.RisingCuts.{cuts_rise as pieces-rising}
