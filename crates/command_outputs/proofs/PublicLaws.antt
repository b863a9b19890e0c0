-- What the crates above may use in their lemmas, and all that they may. Each term proves the clause
-- of src/laws.rt that its name gives, law and clause, and the answers of those laws are these terms.
pub use Rattle.command_outputs.proofs.StageChain.{none_passed as stages-none, one_more as stages-next}
pub use Rattle.command_outputs.proofs.StageChain.{stage_stops as stages-stopped, stage_through as stages-through}
pub use Rattle.command_outputs.proofs.StageChain.{stage_opens as stage_outcomes-opens, stage_waits as stage_outcomes-waits}
pub use Rattle.command_outputs.proofs.StageChain.{text_written as command_ends-written, memory_refused as command_ends-out_of_memory}
