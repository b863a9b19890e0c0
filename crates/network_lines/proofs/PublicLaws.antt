-- What the crates above may cite in their lemmas, and all that they may. Each term proves the
-- clause of src/laws.rt that its name tells, law and clause, and the answers of those laws are
-- these terms: so no more is cited than a public clause says.
pub use Rattle.network_lines.proofs.ValueBounds.{time as values-time, status as values-status}
pub use Rattle.network_lines.proofs.ValueBounds.{setting as values-setting}
pub use Rattle.network_lines.proofs.ValueBounds.{travel_time as values-travel_time}
pub use Rattle.network_lines.proofs.OptionBounds.{routing_step as bounds-routing_step}
pub use Rattle.network_lines.proofs.Networks.{links as bounds-links}
