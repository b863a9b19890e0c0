-- What the crates above may use in their lemmas, and all that they may. Each term proves the clause
-- of src/laws.rt that its name gives, law and clause, and the answers of those laws are these terms.
pub use Rattle.input_check.proofs.Causes.{known_cause as cause_names-known}
pub use Rattle.input_check.proofs.WholeFiles.{unread_stage as whole_files-unread}
