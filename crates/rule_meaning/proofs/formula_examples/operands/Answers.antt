-- The definitions compute the examples.
use Rattle.std.proofs.Common.{refl}
use Rattle.rule_types.specs.declared.expr.Expr.TheFolds.{fold-roll-Expr}
use Rattle.rule_meaning.proofs.ExampleWords.{state_words}
use Rattle.rule_meaning.proofs.formula_examples.operands.Goals as goal

pub returns-clause-overflow_first : goal.returns-clause-overflow_first
unfolding state_words
returns-clause-overflow_first c = simp fold-roll-Expr refl

pub returns-clause-divisor_first : goal.returns-clause-divisor_first
unfolding state_words
returns-clause-divisor_first c = simp fold-roll-Expr refl

pub returns-clause-missing_first : goal.returns-clause-missing_first
unfolding state_words
returns-clause-missing_first c = simp fold-roll-Expr refl

pub returns-clause-missing_last : goal.returns-clause-missing_last
unfolding state_words
returns-clause-missing_last c = simp fold-roll-Expr refl

pub returns-clause-one_missing : goal.returns-clause-one_missing
unfolding state_words
returns-clause-one_missing c = simp fold-roll-Expr refl

pub returns-clause-net_inflow : goal.returns-clause-net_inflow
unfolding state_words
returns-clause-net_inflow c = simp fold-roll-Expr refl
