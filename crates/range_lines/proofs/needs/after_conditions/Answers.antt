use Rattle.std.proofs.Common.{◌≡◌, ◌∷◌, ◌+◌, ap, ap₂, sym, ◌∙◌, drop, drop-cons, add-one}
use Rattle.std.specs.List.{flat_map}
use Rattle.rule_types.specs.Reading.{condition_reads}
use Rattle.range_lines.specs.internal.Views.{first_of}
use Rattle.range_lines.proofs.Firsts.{condition_more}
use Rattle.range_lines.proofs.needs.after_conditions.Goals as goal

pub loop-condition-preserved : goal.loop-condition-preserved
loop-condition-preserved c =
    let given = c.args.given.now in
    let names = c.args.names.now in
    let all = c.args.conditions.now in
    let one = c.condition-item.result in
    let at = c.loop-condition.condition-index in
    let later = drop (at + 1) all in
    let here : drop at all ≡ one ∷ later =
    drop-cons all at one c.loop-condition-test.true
    ∙ ap₂ (λ r n. r ∷ drop n all) (sym c.condition-item.is) (sym (add-one at)) in
    ap (λ f. first_of given f (flat_map (condition_reads names) later)) c.after_condition-first.ensures
    ∙ condition_more given names c.loop-condition.first one later
    ∙ ap (λ l. first_of given c.loop-condition.first (flat_map (condition_reads names) l)) (sym here)
    ∙ c.loop-condition.invariant
