use Rattle.std.proofs.Common.{ap, subst}
use Rattle.std.specs.Prelude.{nat_le, All}
use Rattle.std.specs.List.{list_any}
use Rattle.std.proofs.lemmas.List.Elements.{All-head, All-tail}
use Rattle.moment_pieces.specs.internal.Turns.{condition_turns, HalfStepFits}
use Rattle.moment_pieces.proofs.Gathers.{pending_first, pending_next}
use Rattle.moment_pieces.proofs.turns.put_conditions.Goals as goal

pub conditions-init : goal.conditions-init
conditions-init c = (
  pending_first c.args.set.now.keys (λ m. list_any (condition_turns c.args.names.now c.args.scale.now m) c.args.conditions.now) (λ m. nat_le m c.args.scale.now.limit),
  c.requires.fit,
)

pub put_condition-requires-clause-fit : goal.put_condition-requires-clause-fit
put_condition-requires-clause-fit c =
    All-head HalfStepFits c.in-Some.condition.now c.in-Some.others.now (subst (All HalfStepFits) c.in-Some.ensures.cases.0 c.conditions.invariant.1)

pub conditions-preserved : goal.conditions-preserved
conditions-preserved c = (
  pending_next c.args.set.now.keys c.conditions.set.keys c.put_condition.new.set.keys
      (λ m. condition_turns c.args.names.now c.args.scale.now m c.in-Some.condition.now)
      (λ m. list_any (condition_turns c.args.names.now c.args.scale.now m) c.conditions.left.now)
      (λ m. list_any (condition_turns c.args.names.now c.args.scale.now m) c.in-Some.others.now)
      (λ m. list_any (condition_turns c.args.names.now c.args.scale.now m) c.args.conditions.now)
      (λ m. nat_le m c.args.scale.now.limit)
      (λ m. ap (list_any (condition_turns c.args.names.now c.args.scale.now m)) c.in-Some.ensures.cases.0)
      c.conditions.invariant.0 c.in_ok-put_condition.ensures.adds,
  All-tail HalfStepFits c.in-Some.condition.now c.in-Some.others.now (subst (All HalfStepFits) c.in-Some.ensures.cases.0 c.conditions.invariant.1),
)
