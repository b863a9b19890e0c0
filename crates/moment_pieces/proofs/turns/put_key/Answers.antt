use Rattle.std.proofs.Common.{◌∙◌, ap}
use Rattle.std.specs.Prelude.{◌&&◌, nat_le}
use Rattle.rule_types.specs.declared.condition.Side.TheVariants as side
use Rattle.moment_pieces.specs.internal.Turns.{sides_turn}
use Rattle.moment_pieces.proofs.Gathers.{adds_none, nothing_within, object_turns_not}
use Rattle.moment_pieces.proofs.turns.put_key.Goals as goal

pub returns-in-Object : goal.returns-in-Object
returns-in-Object c = record {
  adds =
      adds_none c.args.set.now.keys
      (λ m. sides_turn c.args.scale.now c.args.condition.now m (side.Key c.args.key.now) c.args.condition.now.right && nat_le m c.args.scale.now.limit)
      (λ m. nothing_within (sides_turn c.args.scale.now c.args.condition.now m (side.Key c.args.key.now) c.args.condition.now.right) (nat_le m c.args.scale.now.limit)
      (ap (λ key. sides_turn c.args.scale.now c.args.condition.now m (side.Key key) c.args.condition.now.right) c.in-Object.is
      ∙ object_turns_not c.args.scale.now m c.args.condition.now c.in-Object.field-0 c.in-Object.field-1 c.args.condition.now.right));
}
