use Rattle.std.proofs.Common.{◌≡◌, ◌∷◌, ap, ap₂, sym, ◌∙◌, drop, drop-cons, add-one, ◌+◌}
use Rattle.rule_types.specs.Reading.{links_acted}
use Rattle.rule_parser.specs.Projects.{links_with}
use Rattle.rule_parser.specs.internal.Views.{action_links}
use Rattle.rule_parser.proofs.Sums.{links_rule}
use Rattle.rule_parser.proofs.noted.links_acted.Goals as goal

pub loop-rule-preserved : goal.loop-rule-preserved
loop-rule-preserved c =
    let rules = c.args.rules.now in
    let rule = c.rule-item.result in
    let at = c.loop-rule.rule-index in
    let found = c.loop-rule.found.keys in
    let later = drop (at + 1) rules in
    let here : drop at rules ≡ rule ∷ later =
    drop-cons rules at rule c.loop-rule-test.true
    ∙ ap₂ (λ r n. r ∷ drop n rules) (sym c.rule-item.is) (sym (add-one at)) in
    let first = c.in_ok-add_links.ensures ∙ ap (λ l. links_with found (action_links l)) c.as_slice.ensures.value in
    let second = c.in_ok-add_links-2.ensures
    ∙ ap₂ (λ f l. links_with f (action_links l)) first c.as_slice-in-loop-rule.ensures.value in
    ap (λ f. links_with f (links_acted later)) second
    ∙ links_rule found rule later
    ∙ ap (λ l. links_with found (links_acted l)) (sym here)
    ∙ c.loop-rule.invariant
