-- What the crates above may cite in their lemmas, and all that they may. Each term proves the clause of src/laws.rt that its
-- name tells, law and clause, and the answers of those laws are these terms: so no more is cited than a public clause says.
pub use Rattle.report_text.proofs.QuestionsBack.{question_back as questions-back}
pub use Rattle.report_text.proofs.StatesBack.{state_back as states-back}
pub use Rattle.report_text.proofs.CellsBack.{cell_back as cells-back}
pub use Rattle.report_text.proofs.TreesBack.{tree_back as trees-back}
pub use Rattle.report_text.proofs.VerdictsBack.{verdict_back as verdicts-back}
pub use Rattle.report_text.proofs.ReportsBack.{entry_back as entries-back, report_back as reports-back}
pub use Rattle.report_text.proofs.LinesCut.{lines_cut as texts-cut}
pub use Rattle.report_text.proofs.LinesFit.{report_cut as texts-report}
pub use Rattle.report_text.proofs.AcceptedTrees.{accepted_fits as accepted_trees-fit}
