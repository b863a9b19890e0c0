use Rattle.std.proofs.Common.{◌≡◌, ◌∙◌, Some, List, length, ap, sym, subst, arith}
use Rattle.std.proofs.lemmas.Option.{same_Some}
use Rattle.std.specs.Prelude.{IsTrue, slice_get}
use Rattle.std.specs.List.{All}
use Rattle.rule_types.specs.declared.rule.Rule.{Rule}
use Rattle.rule_types.specs.declared.condition.Condition.{Condition}
use Rattle.rule_types.specs.WellFormed.{IsHalfStep}
use Rattle.premise_eval.specs.Kept.{Kept}
use Rattle.premise_eval.proofs.PlanSteps.{pairs_long}
use Rattle.premise_eval.proofs.RowSteps.{at_found, half_steps, premise_is}
use Rattle.premise_eval.proofs.premises.premise.Goals as goal

pub premise_in-requires-clause-half_step : goal.premise_in-requires-clause-half_step
premise_in-requires-clause-half_step c =
    let row : slice_get c.args.rules.now.rules c.args.rule ≡ Some c.index-as_slice-rule.result =
    at_found c.args.rules.now.rules c.as_slice.result.now c.args.rule c.index-as_slice-rule.result c.as_slice.ensures.value
    (omega (arith, c.requires.exists, ap (λ (l : List Rule). length l) c.as_slice.ensures.value)) c.index-as_slice-rule.is in
    subst (λ l. All (λ (one : Condition). IsTrue one.half_step → IsHalfStep one) l) (sym c.as_slice-2.ensures.value)
    (half_steps c.args.rules.now c.args.rule c.index-as_slice-rule.result c.requires.well_formed row)

pub premise_in-requires-clause-each : goal.premise_in-requires-clause-each
premise_in-requires-clause-each c =
    let row : slice_get c.args.rules.now.rules c.args.rule ≡ Some c.index-as_slice-rule.result =
    at_found c.args.rules.now.rules c.as_slice.result.now c.args.rule c.index-as_slice-rule.result c.as_slice.ensures.value
    (omega (arith, c.requires.exists, ap (λ (l : List Rule). length l) c.as_slice.ensures.value)) c.index-as_slice-rule.is in
    sym (pairs_long c.args.values.now.columns c.index-as_slice-rule.result.conditions c.pairs_of-pairs.result.now (c.pairs_of-pairs.ensures.each c.index-as_slice-rule.result row))
    ∙ ap (λ (l : List Condition). length l) (sym c.as_slice-2.ensures.value)

pub returns : goal.returns
returns c =
    let row : slice_get c.args.rules.now.rules c.args.rule ≡ Some c.index-as_slice-rule.result =
    at_found c.args.rules.now.rules c.as_slice.result.now c.args.rule c.index-as_slice-rule.result c.as_slice.ensures.value
    (omega (arith, c.requires.exists, ap (λ (l : List Rule). length l) c.as_slice.ensures.value)) c.index-as_slice-rule.is in
    record {
      value = λ only s one made among is_row.
          let same : c.index-as_slice-rule.result ≡ one = same_Some c.index-as_slice-rule.result one (sym row ∙ is_row) in
          premise_is c.args.rules.now only s c.args.values.now one c.as_slice-2.result.now c.values.inside.hours c.deref.result.now c.pairs_of-pairs.result.now c.premise_in.result
          made among (c.pairs_of-pairs.ensures.each one is_row) (ap (λ (k : Kept). k.hours) c.values.view_is)
          (c.deref.ensures.value ∙ ap (λ (k : Kept). k.values) c.values.view_is)
          (c.as_slice-2.ensures.value ∙ ap (λ (r : Rule). r.conditions) same) c.premise_in.ensures.value;
    }
