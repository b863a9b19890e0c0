use Rattle.std.proofs.Common.{◌≡◌, [], ◌∷◌, ◌++◌, ap, sym, subst, ◌∙◌, take, ◌+◌}
use Rattle.std.specs.List.{flat_map}
use Rattle.std.proofs.lemmas.List.{take_more}
use Rattle.rule_types.specs.Reading.{keys_read, condition_reads}
use Rattle.rule_parser.specs.internal.Noting.{Notes}
use Rattle.rule_parser.proofs.Sums.{notes_rule}
use Rattle.rule_parser.proofs.noted.Noted.rules.Goals as goal

pub loop-rule-preserved : goal.loop-rule-preserved
loop-rule-preserved c =
    let names = c.args.names.now in
    let rules = c.args.rules.now in
    let rule = c.rule-item.result in
    let at = c.loop-rule.rule-index in
    let more : take (at + 1) rules ≡ take at rules ++ rule ∷ [] =
    take_more rules at rule c.loop-rule-test.true
    ∙ ap (λ r. take at rules ++ r ∷ []) (sym c.rule-item.is) in
    let read =
    subst (λ conditions.
    Notes c.loop-rule.self c.conditions.new.self (flat_map (condition_reads names) conditions))
    c.as_slice.ensures.value c.in_ok-conditions.ensures.reads in (
      subst (λ l. Notes c.args.self.now c.conditions.new.self (keys_read names l)) (sym more)
          (notes_rule names c.args.self.now c.loop-rule.self c.conditions.new.self (take at rules) rule
          c.loop-rule.invariant.0 read),
      c.in_ok-conditions.ensures.seen,
    )
