use Rattle.std.specs.Prelude.{All}
use Rattle.std.specs.List.{Contains}
use Rattle.std.proofs.lemmas.List.Elements.{All-push}
use Rattle.std.proofs.Common.{◌∷◌, [], List, sym, ap, subst, ◌∙◌}
use Rattle.exact_fraction.specs.Number.{Rational}
use Rattle.interval_sets.specs.Cuts.{IsRising}
use Rattle.table_plan.specs.Pieces.{IsCut}
use Rattle.table_plan.specs.internal.CutSteps.{above_last}
use Rattle.table_plan.proofs.CutLists.{cut_kept, cut_pushed, rising_pushed, cut_repeated}
use Rattle.table_plan.proofs.rising_cuts.push_above.Goals as goal

pub returns-in_ok-push-clause-rising : goal.returns-in_ok-push-clause-rising
returns-in_ok-push-clause-rising c =
    let above = ap (λ cuts. above_last cuts c.args.end.now) (sym c.as_slice.ensures.value) ∙ sym c.is_above_last.ensures ∙ c.if-is_above_last.true in
    let P : List Rational → Type 0 = λ cuts. IsRising cuts in
    subst P (sym c.in_ok-push.ensures.items) (rising_pushed c.args.cuts.now.items c.args.end.now c.requires.rising above)

pub returns-in_ok-push-clause-cut : goal.returns-in_ok-push-clause-cut
returns-in_ok-push-clause-cut c =
    let above = ap (λ cuts. above_last cuts c.args.end.now) (sym c.as_slice.ensures.value) ∙ sym c.is_above_last.ensures ∙ c.if-is_above_last.true in
    let P : List Rational → Type 0 = λ cuts. IsCut cuts c.args.end.now in
    subst P (sym c.in_ok-push.ensures.items) (cut_pushed c.args.cuts.now.items c.args.end.now c.requires.rising above)

pub returns-in_ok-push-clause-others : goal.returns-in_ok-push-clause-others
returns-in_ok-push-clause-others c = λ p cut.
    let P : List Rational → Type 0 = λ cuts. IsCut cuts p in
    subst P (sym c.in_ok-push.ensures.items) (cut_kept c.args.cuts.now.items (c.args.end.now ∷ []) p cut)

pub returns-else-is_above_last-clause-cut : goal.returns-else-is_above_last-clause-cut
returns-else-is_above_last-clause-cut c =
    let above = ap (λ cuts. above_last cuts c.args.end.now) (sym c.as_slice.ensures.value) ∙ sym c.is_above_last.ensures ∙ c.if-is_above_last.false in
    (cut_repeated c.args.cuts.now.items c.args.end.now c.requires.rising c.requires.not_below above).0

pub returns-in_ok-push-clause-from : goal.returns-in_ok-push-clause-from
returns-in_ok-push-clause-from c = λ all one rest.
    subst (All (Contains all)) (sym c.in_ok-push.ensures.items) (All-push (Contains all) c.args.cuts.now.items c.args.end.now rest one)
