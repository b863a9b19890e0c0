-- Links of rules, piece by piece.
use Rattle.std.proofs.Common.{◌≡◌, ℕ, List, [], ◌∷◌, ◌++◌, refl, sym, ap, ◌∙◌, append_assoc}
use Rattle.std.specs.BTreeSet.{insert_key}
use Rattle.std.specs.Ordering.{nat_cmp}
use Rattle.std.proofs.lemmas.Grind.{flat_map-append}
use Rattle.rule_types.specs.Reading.{links_acted}
use Rattle.rule_types.specs.declared.rule.Rule.{Rule}
use Rattle.range_lines.specs.Entries.{in_link_order}
use Rattle.range_lines.specs.Questions.{rule_links}
use Rattle.range_lines.specs.internal.Views.{action_links}

links-append : (found one other : List ℕ)
    → in_link_order (in_link_order found one) other ≡ in_link_order found (one ++ other)
links-append found [] other = refl
links-append found (link ∷ one) other = links-append (insert_key nat_cmp found link) one other

-- the links of one rule and of later ones
pub links_rule : (found : List ℕ) (rule : Rule) (rules : List Rule)
    → in_link_order (in_link_order (in_link_order found (action_links rule.then_actions)) (action_links rule.else_actions)) (links_acted rules)
    ≡ in_link_order found (links_acted (rule ∷ rules))
links_rule found rule rules =
    links-append (in_link_order found (action_links rule.then_actions)) (action_links rule.else_actions) (links_acted rules)
    ∙ links-append found (action_links rule.then_actions) (action_links rule.else_actions ++ links_acted rules)
    ∙ ap (in_link_order found) (sym (append_assoc (action_links rule.then_actions) (action_links rule.else_actions) (links_acted rules))
    ∙ ap (λ links. links ++ links_acted rules)
    (sym (flat_map-append (λ action. action.link ∷ []) rule.then_actions rule.else_actions)))

-- the links of one rule
pub links_alone : (rule : Rule)
    → in_link_order (in_link_order [] (action_links rule.then_actions)) (action_links rule.else_actions)
    ≡ rule_links rule
links_alone rule = links_rule [] rule []
