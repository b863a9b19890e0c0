use Rattle.std.proofs.Common.{◌<◌, ◌∙◌, length, get_or, refl, sym, ap, arith}
use Rattle.std.proofs.lemmas.Bool.{false≢true}
use Rattle.rule_types.specs.declared.condition.Condition.{Condition}
use Rattle.table_run.proofs.SourceSteps.{none_before, none_more, left_here}
use Rattle.table_run.proofs.sources.first_in_rule.Goals as goal

pub loop-number-init : goal.loop-number-init
loop-number-init c = none_before c.args.row.now.conditions c.args.side.now

pub returns-then-is_same-clause-found : goal.returns-then-is_same-clause-found
returns-then-is_same-clause-found c =
    let one = c.index-as_slice-number.result in
    let within : c.loop-number.number < length c.args.row.now.conditions = omega (arith, c.loop-number-test.true, c.len-number-end.ensures.value) in
    left_here c.args.row.now.conditions c.loop-number.number c.args.side.now one within
    (c.index-as_slice-number.is ∙ ap (λ l. get_or l c.loop-number.number one) c.as_slice.ensures.value)
    (ap (λ (d : Condition). d.left) c.index-as_slice-number.is ∙ c.if-is_same.ensures.value.0 refl)

pub loop-number-preserved : goal.loop-number-preserved
loop-number-preserved c =
    let one = c.index-as_slice-number.result in
    none_more c.args.row.now.conditions c.loop-number.number c.args.side.now one
    (c.index-as_slice-number.is ∙ ap (λ l. get_or l c.loop-number.number one) c.as_slice.ensures.value)
    (λ e. false≢true (c.if-is_same.ensures.value.1 (ap (λ (d : Condition). d.left) (sym c.index-as_slice-number.is) ∙ e)))
    c.loop-number.invariant
