use Rattle.std.proofs.Common.{◌≡◌, [], ◌∷◌, ◌++◌, ◌+◌, ap, sym, subst, ◌∙◌, take, List}
use Rattle.std.specs.List.{flat_map}
use Rattle.std.proofs.lemmas.List.{take_more}
use Rattle.rule_types.specs.Reading.{condition_reads}
use Rattle.rule_types.specs.declared.condition.Condition.{Condition}
use Rattle.rule_parser.specs.internal.Noting.{Notes}
use Rattle.rule_parser.proofs.Sums.{notes_condition}
use Rattle.rule_parser.proofs.noted.Noted.conditions.Goals as goal

pub loop-condition-preserved : goal.loop-condition-preserved
loop-condition-preserved c =
    let names = c.args.names.now in
    let all = c.args.conditions.now in
    let one = c.condition-item.result in
    let at = c.loop-condition.condition-index in
    let more : take (at + 1) all ≡ take at all ++ one ∷ [] =
    take_more all at one c.loop-condition-test.true
    ∙ ap (λ r. take at all ++ r ∷ []) (sym c.condition-item.is) in (
      subst (λ (l : List Condition).
          Notes c.args.self.now c.condition.new.self (flat_map (condition_reads names) l)) (sym more)
          (notes_condition names c.args.self.now c.loop-condition.self c.condition.new.self (take at all)
          one c.loop-condition.invariant.0 c.in_ok-condition.ensures.reads),
      c.in_ok-condition.ensures.seen,
    )
