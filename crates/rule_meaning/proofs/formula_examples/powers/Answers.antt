-- The definitions compute the examples.
use Rattle.std.proofs.Common.{refl}
use Rattle.rule_types.specs.declared.expr.Expr.TheFolds.{fold-roll-Expr}
use Rattle.rule_meaning.proofs.ExampleWords.{state_words}
use Rattle.rule_meaning.proofs.formula_examples.powers.Goals as goal

pub returns-clause-third : goal.returns-clause-third
unfolding state_words
returns-clause-third c = simp fold-roll-Expr refl

pub returns-clause-square : goal.returns-clause-square
unfolding state_words
returns-clause-square c = simp fold-roll-Expr refl

pub returns-clause-none : goal.returns-clause-none
unfolding state_words
returns-clause-none c = simp fold-roll-Expr refl

pub returns-clause-none_of_zero : goal.returns-clause-none_of_zero
unfolding state_words
returns-clause-none_of_zero c = simp fold-roll-Expr refl

pub returns-clause-of_missing : goal.returns-clause-of_missing
unfolding state_words
returns-clause-of_missing c = simp fold-roll-Expr refl

pub returns-clause-too_large : goal.returns-clause-too_large
unfolding state_words
returns-clause-too_large c = simp fold-roll-Expr refl
