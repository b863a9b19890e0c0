use Rattle.std.proofs.Common.{◌≡◌, ◌∷◌, ap, ap₂, sym, ◌∙◌, drop, drop-cons, add-one, ◌+◌}
use Rattle.rule_types.specs.Reading.{links_acted}
use Rattle.range_lines.specs.Entries.{in_link_order}
use Rattle.range_lines.specs.internal.Views.{action_links}
use Rattle.range_lines.proofs.Links.{links_rule}
use Rattle.range_lines.proofs.link_set.links_acted.Goals as goal

pub loop-rule-preserved : goal.loop-rule-preserved
loop-rule-preserved c =
    let rules = c.args.rules.now in
    let rule = c.rule-item.result in
    let at = c.loop-rule.rule-index in
    let found = c.loop-rule.found.keys in
    let later = drop (at + 1) rules in
    let here : drop at rules ≡ rule ∷ later =
    drop-cons rules at rule c.loop-rule-test.true
    ∙ ap₂ (λ r n. r ∷ drop n rules) (sym c.rule-item.is) (sym (add-one at)) in
    let first = c.in_ok-add_links.ensures ∙ ap (λ l. in_link_order found (action_links l)) c.as_slice.ensures.value in
    let second = c.in_ok-add_links-2.ensures
    ∙ ap₂ (λ f l. in_link_order f (action_links l)) first c.as_slice-in-loop-rule.ensures.value in
    ap (λ f. in_link_order f (links_acted later)) second
    ∙ links_rule found rule later
    ∙ ap (λ l. in_link_order found (links_acted l)) (sym here)
    ∙ c.loop-rule.invariant
