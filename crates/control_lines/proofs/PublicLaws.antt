-- What the crates above may cite in their lemmas, and all that they may. Each term proves the
-- clause of src/laws.rt that its name gives, law and clause, and the answers of those laws are
-- these terms: so no more is cited than a public clause says.
pub use Rattle.control_lines.proofs.Faults.{sooner_lower as faults-sooner}
pub use Rattle.control_lines.proofs.Faults.{both_earlier as faults-both}
