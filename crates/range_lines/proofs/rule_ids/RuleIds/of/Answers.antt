use Rattle.std.proofs.Common.{◌≡◌, ◌≤◌, ◌+◌, ◌++◌, ◌∷◌, [], List, ℕ, length, map, take, ap, sym, subst, ◌∙◌, arith}
use Rattle.std.proofs.lemmas.List.{take_more, map-append, length-map, length-take-le}
use Rattle.std.specs.Str.{str_to_ascii_lowercase}
use Rattle.rule_types.specs.declared.rule.Rule.{Rule}
use Rattle.range_lines.specs.internal.Ids.{IsIndexed}
use Rattle.range_lines.proofs.Ids.{indexed-more}
use Rattle.range_lines.proofs.rule_ids.RuleIds.of.Goals as goal

abbrev id_of : Rule → List ℕ
id_of rule = rule.id

pub loop-index-preserved : goal.loop-index-preserved
loop-index-preserved c =
    let rules = c.args.rules.now in
    let rule = c.index-rules-index.result in
    let at = c.loop-index.index in
    let ids : List (List ℕ) = c.loop-index.ids.items in
    let items : c.push_id.new.ids.items ≡ ids ++ rule.id ∷ [] =
    c.in_ok-push_id.ensures ∙ ap (λ (t : List ℕ). ids ++ t ∷ []) c.as_slice-id.ensures.value in
    let more : take (at + 1) rules ≡ take at rules ++ rule ∷ [] =
    take_more rules at rule c.loop-index-test.true ∙ ap (λ r. take at rules ++ r ∷ []) (sym c.index-rules-index.is) in
    let within : at ≤ length rules = omega (arith, c.loop-index-test.true) in
    let count : at ≡ length ids =
    sym (ap length c.loop-index.invariant.0 ∙ length-map (take at rules) id_of ∙ length-take-le at rules within) in (
      items ∙ ap (λ (l : List (List ℕ)). l ++ rule.id ∷ []) c.loop-index.invariant.0
          ∙ sym (map-append id_of (take at rules) (rule ∷ [])) ∙ ap (map id_of) (sym more),
      subst (λ (l : List (List ℕ)). IsIndexed l c.add_place.new.map c.add_place-in-loop-index.new.map) (sym items)
          (indexed-more ids rule.id c.in_ok-copy_of.field-0.items c.in_ok-folded.field-0.items at
          c.loop-index.exact c.add_place.new.map c.loop-index.caseless c.add_place-in-loop-index.new.map
          c.loop-index.invariant.1
          (c.in_ok-copy_of.ensures ∙ c.as_slice-id.ensures.value)
          (c.in_ok-folded.ensures ∙ ap str_to_ascii_lowercase c.as_slice-id.ensures.value)
          count c.in_ok-add_place.ensures c.in_ok-add_place-2.ensures),
    )
