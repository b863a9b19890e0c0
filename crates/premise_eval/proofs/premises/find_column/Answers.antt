use Rattle.std.proofs.Common.{refl}
use Rattle.std.proofs.lemmas.Bool.{false≢true}
use Rattle.premise_eval.proofs.RowSteps.{none_yet, one_more_none, column_here}
use Rattle.premise_eval.proofs.premises.find_column.Goals as goal

pub loop-at-init : goal.loop-at-init
loop-at-init c = none_yet c.args.columns.now c.args.side.now

pub returns-then-is_same-clause-found : goal.returns-then-is_same-clause-found
returns-then-is_same-clause-found c =
    column_here c.args.columns.now c.loop-at.at c.args.side.now _ c.loop-at-test.true (c.if-is_same.ensures.value.0 refl)

pub loop-at-preserved : goal.loop-at-preserved
loop-at-preserved c =
    one_more_none c.args.columns.now c.loop-at.at c.args.side.now _ c.loop-at-test.true (λ e. false≢true (c.if-is_same.ensures.value.1 e)) c.loop-at.invariant
