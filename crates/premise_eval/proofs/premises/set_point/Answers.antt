use Rattle.std.proofs.Common.{◌≡◌, ◌-◌, ◌∙◌, Some, List, length, ap, sym, arith}
use Rattle.std.proofs.lemmas.Option.{same_Some}
use Rattle.std.specs.Prelude.{slice_get}
use Rattle.rule_types.specs.declared.rule.Rule.{Rule}
use Rattle.rule_types.specs.declared.condition.Condition.{Condition}
use Rattle.premise_eval.specs.Kept.{Kept}
use Rattle.premise_eval.proofs.RowSteps.{at_found, no_set_point, set_point_by}
use Rattle.premise_eval.proofs.premises.set_point.Goals as goal

pub returns-in-Some : goal.returns-in-Some
returns-in-Some c =
    let row : slice_get c.args.rules.now.rules c.args.rule ≡ Some c.index-as_slice-rule.result =
    at_found c.args.rules.now.rules c.as_slice.result.now c.args.rule c.index-as_slice-rule.result c.as_slice.ensures.value
    (omega (arith, c.requires.exists, ap (λ (l : List Rule). length l) c.as_slice.ensures.value)) c.index-as_slice-rule.is in
    record {
      value = λ only s one made among is_row.
          let same : c.index-as_slice-rule.result ≡ one = same_Some c.index-as_slice-rule.result one (sym row ∙ is_row) in
          let conditions = c.as_slice-2.ensures.value ∙ ap (λ (r : Rule). r.conditions) same in
          c.last_right.ensures.value
          ∙ set_point_by c.args.rules.now only s c.args.values.now one c.deref.result.now c.pairs_of-pairs.result.now c.in-Some.condition.now
          made (c.pairs_of-pairs.ensures.each one is_row) (c.deref.ensures.value ∙ ap (λ (k : Kept). k.values) c.values.view_is)
          (c.in-Some.ensures.value ∙ ap (λ (l : List Condition). slice_get l (length l - 1)) conditions);
    }

pub returns-in-None : goal.returns-in-None
returns-in-None c =
    let row : slice_get c.args.rules.now.rules c.args.rule ≡ Some c.index-as_slice-rule.result =
    at_found c.args.rules.now.rules c.as_slice.result.now c.args.rule c.index-as_slice-rule.result c.as_slice.ensures.value
    (omega (arith, c.requires.exists, ap (λ (l : List Rule). length l) c.as_slice.ensures.value)) c.index-as_slice-rule.is in
    record {
      value = λ only s one made among is_row.
          let same : c.index-as_slice-rule.result ≡ one = same_Some c.index-as_slice-rule.result one (sym row ∙ is_row) in
          let conditions = c.as_slice-2.ensures.value ∙ ap (λ (r : Rule). r.conditions) same in
          no_set_point c.args.rules.now s one.conditions
          (c.in-None.ensures.value ∙ ap (λ (l : List Condition). slice_get l (length l - 1)) conditions);
    }
