-- What the crates above may cite in their lemmas, and all that they may. Each term proves the clause of src/laws.rt that its
-- name tells, law and clause, and the answers of those laws are these terms: so no more is cited than a public clause says.
pub use Rattle.key_words.proofs.WordTables.{object_exact as objects-exact, object_back as objects-back, clock_exact as clock-exact, clock_back as clock-back, relation_exact as relations-exact, relation_back as relations-back, status_exact as statuses-exact, status_back as statuses-back}
pub use Rattle.key_words.proofs.AttributeWords.{attribute_exact as attributes-exact, attribute_back as attributes-back}
