use Rattle.std.proofs.Common.{◌≡◌, ◌<◌, ◌∙◌, ◌&&◌, not, false, length, sym, arith}
use Rattle.std.proofs.lemmas.Bool.Decides.{nat_tests}
use Rattle.std.proofs.lemmas.List.{nil_from_length}
use Rattle.premise_eval.proofs.PremiseSteps.{none_holds, first_is, next_is, closed_is, at_end, goes_by_any, goes_inside}
use Rattle.premise_eval.proofs.conditions.premise_in.Goals as goal
use Rattle.premise_eval.proofs.conditions.premise_in.Goals.{else-condition-via-then-condition+else-not-any, else-condition-via-else-condition}

pub returns-then-is_empty : goal.returns-then-is_empty
returns-then-is_empty c =
    let none : length c.args.conditions.now ≡ 0 = grind (arith, nat_tests) in
    record { value = λ truth told. none_holds truth c.args.conditions.now (nil_from_length c.args.conditions.now none) }

pub loop-at-init : goal.loop-at-init
loop-at-init c = λ truth told.
    let some : 0 < length c.args.conditions.now = grind (arith, nat_tests) in
    first_is c.args.hours.now c.args.values.now truth c.args.conditions.now c.args.pairs.now c.index-conditions-0.result _ c.holds_in-any.result
    c.holds_in-any.ensures.value c.index-conditions-0.is told some

pub returns-then-not-any : goal.returns-then-not-any
returns-then-not-any c = record {
  value = λ truth told.
      sym (closed_is truth c.loop-at.any c.args.conditions.now c.loop-at.at c.index-conditions-at.result c.index-conditions-at.is c.loop-at-test.true c.if-condition.true c.if-not-any.true)
      ∙ c.loop-at.invariant truth told;
}

pub loop-at-preserved : goal.loop-at-preserved
loop-at-preserved c = λ truth told.
    let goes : (c.index-conditions-at.result.joined_by_and && not c.loop-at.any) ≡ false =
    elim c.else-condition.branch [
      | else-condition-via-then-condition+else-not-any w ↦ goes_by_any c.index-conditions-at.result.joined_by_and c.loop-at.any w.if-not-any.false
      | else-condition-via-else-condition w ↦ goes_inside c.index-conditions-at.result.joined_by_and c.loop-at.any w.if-condition.false
    ] in
    next_is c.args.hours.now c.args.values.now truth c.args.conditions.now c.args.pairs.now c.loop-at.at c.index-conditions-at.result _ c.loop-at.any c.holds_in-holds.result c.group_holds-any.result
    c.holds_in-holds.ensures.value c.index-conditions-at.is told c.loop-at-test.true goes c.group_holds-any.ensures.value
    ∙ c.loop-at.invariant truth told

pub returns : goal.returns
returns c = record {
  value = λ truth told. sym (at_end truth c.loop-at.any c.args.conditions.now c.loop-at.at c.loop-at-test.false) ∙ c.loop-at.invariant truth told;
}
