-- What the crates above may use in their lemmas, and all that they may. The term proves the clause
-- of src/laws.rt that its name gives, law and clause, and the answer of that law is this term.
pub use Rattle.streamed_lines.proofs.Performing.{stream_performs as streams-performs}
