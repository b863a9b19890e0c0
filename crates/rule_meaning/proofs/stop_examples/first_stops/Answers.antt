-- The definitions compute the examples.
use Rattle.std.proofs.Common.{refl}
use Rattle.rule_types.specs.declared.expr.Expr.TheFolds.{fold-roll-Expr}
use Rattle.rule_meaning.proofs.ExampleWords.{rule_words}
use Rattle.rule_meaning.proofs.stop_examples.first_stops.Goals as goal

pub returns-clause-name_before_pid : goal.returns-clause-name_before_pid
unfolding rule_words
returns-clause-name_before_pid c = simp fold-roll-Expr refl

pub returns-clause-pid_alone : goal.returns-clause-pid_alone
unfolding rule_words
returns-clause-pid_alone c = simp fold-roll-Expr refl

pub returns-clause-names_in_order : goal.returns-clause-names_in_order
unfolding rule_words
returns-clause-names_in_order c = simp fold-roll-Expr refl

pub returns-clause-second_name : goal.returns-clause-second_name
unfolding rule_words
returns-clause-second_name c = simp fold-roll-Expr refl
