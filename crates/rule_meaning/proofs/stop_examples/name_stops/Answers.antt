-- The definitions compute the examples.
use Rattle.std.proofs.Common.{refl}
use Rattle.rule_types.specs.declared.expr.Expr.TheFolds.{fold-roll-Expr}
use Rattle.rule_meaning.proofs.ExampleWords.{rule_words}
use Rattle.rule_meaning.proofs.stop_examples.name_stops.Goals as goal

pub returns-clause-zero_divisor : goal.returns-clause-zero_divisor
unfolding rule_words
returns-clause-zero_divisor c = simp fold-roll-Expr refl

pub returns-clause-overflow : goal.returns-clause-overflow
unfolding rule_words
returns-clause-overflow c = simp fold-roll-Expr refl

pub returns-clause-hidden : goal.returns-clause-hidden
unfolding rule_words
returns-clause-hidden c = simp fold-roll-Expr refl

pub returns-clause-keeps : goal.returns-clause-keeps
unfolding rule_words
returns-clause-keeps c = simp fold-roll-Expr refl
