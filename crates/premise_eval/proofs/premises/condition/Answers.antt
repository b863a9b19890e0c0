use Rattle.std.proofs.Common.{◌≡◌, ◌∙◌, Some, List, length, ap, sym, subst, arith}
use Rattle.std.proofs.lemmas.Option.{same_Some}
use Rattle.std.specs.Prelude.{slice_get}
use Rattle.rule_types.specs.declared.rule.Rule.{Rule}
use Rattle.rule_types.specs.declared.condition.Condition.{Condition}
use Rattle.premise_eval.specs.Kept.{Kept}
use Rattle.premise_eval.proofs.PlanSteps.{pairs_long}
use Rattle.premise_eval.proofs.RowSteps.{at_found, exists_at, rule_exists, half_steps, condition_is}
use Rattle.premise_eval.proofs.ColumnSteps.{all_at}
use Rattle.premise_eval.proofs.premises.condition.Goals as goal

pub bounds-as_slice-number : goal.bounds-as_slice-number
bounds-as_slice-number c =
    let row : slice_get c.args.rules.now.rules c.args.rule ≡ Some c.index-as_slice-rule.result =
    at_found c.args.rules.now.rules c.as_slice.result.now c.args.rule c.index-as_slice-rule.result c.as_slice.ensures.value
    (omega (arith, rule_exists c.args.rules.now c.args.rule c.args.number c.requires.exists, ap (λ (l : List Rule). length l) c.as_slice.ensures.value)) c.index-as_slice-rule.is in
    let within = exists_at c.args.rules.now c.args.rule c.args.number c.index-as_slice-rule.result c.requires.exists row in
    omega (arith, within, ap (λ (l : List Condition). length l) c.as_slice-2.ensures.value)

pub bounds-pairs-number : goal.bounds-pairs-number
bounds-pairs-number c =
    let row : slice_get c.args.rules.now.rules c.args.rule ≡ Some c.index-as_slice-rule.result =
    at_found c.args.rules.now.rules c.as_slice.result.now c.args.rule c.index-as_slice-rule.result c.as_slice.ensures.value
    (omega (arith, rule_exists c.args.rules.now c.args.rule c.args.number c.requires.exists, ap (λ (l : List Rule). length l) c.as_slice.ensures.value)) c.index-as_slice-rule.is in
    let within = exists_at c.args.rules.now c.args.rule c.args.number c.index-as_slice-rule.result c.requires.exists row in
    omega (arith, within, pairs_long c.args.values.now.columns c.index-as_slice-rule.result.conditions c.pairs_of-pairs.result.now (c.pairs_of-pairs.ensures.each c.index-as_slice-rule.result row))

pub holds_in-requires-clause-half_step : goal.holds_in-requires-clause-half_step
holds_in-requires-clause-half_step c =
    let row : slice_get c.args.rules.now.rules c.args.rule ≡ Some c.index-as_slice-rule.result =
    at_found c.args.rules.now.rules c.as_slice.result.now c.args.rule c.index-as_slice-rule.result c.as_slice.ensures.value
    (omega (arith, rule_exists c.args.rules.now c.args.rule c.args.number c.requires.exists, ap (λ (l : List Rule). length l) c.as_slice.ensures.value)) c.index-as_slice-rule.is in
    let within = exists_at c.args.rules.now c.args.rule c.args.number c.index-as_slice-rule.result c.requires.exists row in
    let found : slice_get c.index-as_slice-rule.result.conditions c.args.number ≡ Some c.index-as_slice-number.result =
    at_found c.index-as_slice-rule.result.conditions c.as_slice-2.result.now c.args.number c.index-as_slice-number.result c.as_slice-2.ensures.value
    (omega (arith, within, ap (λ (l : List Condition). length l) c.as_slice-2.ensures.value)) c.index-as_slice-number.is in
    all_at (λ (one : Condition). Rattle.std.specs.Prelude.IsTrue one.half_step → Rattle.rule_types.specs.WellFormed.IsHalfStep one) c.index-as_slice-rule.result.conditions c.args.number c.index-as_slice-number.result
    (half_steps c.args.rules.now c.args.rule c.index-as_slice-rule.result c.requires.well_formed row) found

pub returns : goal.returns
returns c =
    let row : slice_get c.args.rules.now.rules c.args.rule ≡ Some c.index-as_slice-rule.result =
    at_found c.args.rules.now.rules c.as_slice.result.now c.args.rule c.index-as_slice-rule.result c.as_slice.ensures.value
    (omega (arith, rule_exists c.args.rules.now c.args.rule c.args.number c.requires.exists, ap (λ (l : List Rule). length l) c.as_slice.ensures.value)) c.index-as_slice-rule.is in
    let within = exists_at c.args.rules.now c.args.rule c.args.number c.index-as_slice-rule.result c.requires.exists row in
    let found : slice_get c.index-as_slice-rule.result.conditions c.args.number ≡ Some c.index-as_slice-number.result =
    at_found c.index-as_slice-rule.result.conditions c.as_slice-2.result.now c.args.number c.index-as_slice-number.result c.as_slice-2.ensures.value
    (omega (arith, within, ap (λ (l : List Condition). length l) c.as_slice-2.ensures.value)) c.index-as_slice-number.is in
    record {
      value = λ only s one given made among is_row is.
          let same : c.index-as_slice-rule.result ≡ one = same_Some c.index-as_slice-rule.result one (sym row ∙ is_row) in
          condition_is c.args.rules.now only s c.args.values.now one c.args.number given c.index-as_slice-number.result c.values.inside.hours c.deref.result.now c.pairs_of-pairs.result.now _ c.holds_in.result
          made among (c.pairs_of-pairs.ensures.each one is_row) (ap (λ (k : Kept). k.hours) c.values.view_is)
          (c.deref.ensures.value ∙ ap (λ (k : Kept). k.values) c.values.view_is) is
          (subst (λ (r : Rule). slice_get r.conditions c.args.number ≡ Some c.index-as_slice-number.result) same found) c.holds_in.ensures.value;
    }
