use Rattle.std.proofs.Common.{ap, sym, ◌∙◌}
use Rattle.std.specs.Prelude.{◌&&◌, nat_le, slice_get, All}
use Rattle.std.specs.List.{list_any}
use Rattle.std.proofs.lemmas.Result.{on_ok_weaker}
use Rattle.rule_types.specs.declared.rule.Rule.{Rule}
use Rattle.moment_pieces.specs.internal.Turns.{condition_turns, rule_turns, HalfStepFits}
use Rattle.moment_pieces.proofs.Gathers.{adds_as, adds_none, nothing_within, all_at}
use Rattle.moment_pieces.proofs.turns.put_rule.Goals as goal

pub put_conditions-requires-clause-fit : goal.put_conditions-requires-clause-fit
put_conditions-requires-clause-fit c =
    rw c.as_slice.ensures.value
    (all_at (λ (rule : Rule). All HalfStepFits rule.conditions) c.args.rules.now.rules c.args.number c.in-Some.rule.now c.requires.fit (sym c.in-Some.ensures.value))

pub returns-in-Some : goal.returns-in-Some
returns-in-Some c = record {
  adds =
      on_ok_weaker c.put_conditions.result
      (λ a. adds_as c.args.set.now.keys c.put_conditions.new.set.keys
      (λ m. list_any (condition_turns c.args.rules.now.names c.args.scale.now m) c.as_slice.result.now && nat_le m c.args.scale.now.limit)
      (λ m. rule_turns c.args.rules.now.names c.args.scale.now m (slice_get c.args.rules.now.rules c.args.number) && nat_le m c.args.scale.now.limit)
      a (λ m. ap (λ b. b && nat_le m c.args.scale.now.limit)
      (ap (rule_turns c.args.rules.now.names c.args.scale.now m) (sym c.in-Some.ensures.value)
      ∙ ap (list_any (condition_turns c.args.rules.now.names c.args.scale.now m)) (sym c.as_slice.ensures.value))))
      c.put_conditions.ensures.adds;
}

pub returns-in-None : goal.returns-in-None
returns-in-None c = record {
  adds =
      adds_none c.args.set.now.keys
      (λ m. rule_turns c.args.rules.now.names c.args.scale.now m (slice_get c.args.rules.now.rules c.args.number) && nat_le m c.args.scale.now.limit)
      (λ m. nothing_within (rule_turns c.args.rules.now.names c.args.scale.now m (slice_get c.args.rules.now.rules c.args.number)) (nat_le m c.args.scale.now.limit)
      (ap (rule_turns c.args.rules.now.names c.args.scale.now m) (sym c.in-None.ensures.value)));
}
