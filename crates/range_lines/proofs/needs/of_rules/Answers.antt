use Rattle.std.proofs.Common.{◌≡◌, ◌∷◌, ◌+◌, ap, ap₂, sym, ◌∙◌, drop, drop-cons, add-one}
use Rattle.std.specs.List.{flat_map}
use Rattle.rule_types.specs.Reading.{condition_reads, keys_read}
use Rattle.range_lines.specs.internal.Views.{first_of}
use Rattle.range_lines.proofs.Firsts.{rule_more}
use Rattle.range_lines.proofs.needs.of_rules.Goals as goal

pub loop-rule-preserved : goal.loop-rule-preserved
loop-rule-preserved c =
    let given = c.args.given.now in
    let names = c.args.names.now in
    let all = c.args.rules.now in
    let one = c.rule-item.result in
    let at = c.loop-rule.rule-index in
    let later = drop (at + 1) all in
    let here : drop at all ≡ one ∷ later =
    drop-cons all at one c.loop-rule-test.true
    ∙ ap₂ (λ r n. r ∷ drop n all) (sym c.rule-item.is) (sym (add-one at)) in
    ap (λ f. first_of given f (keys_read names later))
    (c.after_conditions-found.ensures
    ∙ ap (λ l. first_of given c.loop-rule.found (flat_map (condition_reads names) l)) c.as_slice.ensures.value)
    ∙ rule_more given names c.loop-rule.found one later
    ∙ ap (λ l. first_of given c.loop-rule.found (keys_read names l)) (sym here)
    ∙ c.loop-rule.invariant
