-- The definitions compute the examples.
use Rattle.std.proofs.Common.{refl}
use Rattle.rule_types.specs.declared.expr.Expr.TheFolds.{fold-roll-Expr}
use Rattle.rule_meaning.proofs.ExampleWords.{state_words}
use Rattle.rule_meaning.proofs.formula_examples.functions.Goals as goal

pub returns-clause-minus : goal.returns-clause-minus
unfolding state_words
returns-clause-minus c = simp fold-roll-Expr refl

pub returns-clause-abs : goal.returns-clause-abs
unfolding state_words
returns-clause-abs c = simp fold-roll-Expr refl

pub returns-clause-abs_above : goal.returns-clause-abs_above
unfolding state_words
returns-clause-abs_above c = simp fold-roll-Expr refl

pub returns-clause-sgn_at : goal.returns-clause-sgn_at
unfolding state_words
returns-clause-sgn_at c = simp fold-roll-Expr refl

pub returns-clause-sgn_below : goal.returns-clause-sgn_below
unfolding state_words
returns-clause-sgn_below c = simp fold-roll-Expr refl

pub returns-clause-sgn_above : goal.returns-clause-sgn_above
unfolding state_words
returns-clause-sgn_above c = simp fold-roll-Expr refl

pub returns-clause-step_at : goal.returns-clause-step_at
unfolding state_words
returns-clause-step_at c = simp fold-roll-Expr refl

pub returns-clause-step_below : goal.returns-clause-step_below
unfolding state_words
returns-clause-step_below c = simp fold-roll-Expr refl

pub returns-clause-step_above : goal.returns-clause-step_above
unfolding state_words
returns-clause-step_above c = simp fold-roll-Expr refl

pub returns-clause-difference : goal.returns-clause-difference
unfolding state_words
returns-clause-difference c = simp fold-roll-Expr refl

pub returns-clause-product : goal.returns-clause-product
unfolding state_words
returns-clause-product c = simp fold-roll-Expr refl

pub returns-clause-quotient : goal.returns-clause-quotient
unfolding state_words
returns-clause-quotient c = simp fold-roll-Expr refl
