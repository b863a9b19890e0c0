use Rattle.std.proofs.Common.{◌≡◌, ◌∙◌, ap, sym}
use Rattle.std.specs.Prelude.{◌&&◌, nat_le}
use Rattle.std.proofs.lemmas.Result.{on_ok_weaker}
use Rattle.rule_types.specs.declared.condition.Side.TheVariants as side
use Rattle.moment_pieces.specs.Sides.{side_of}
use Rattle.moment_pieces.specs.internal.Turns.{sides_turn, condition_turns}
use Rattle.moment_pieces.proofs.Gathers.{adds_as, adds_none, nothing_within, turns_by_side, name_turns_not}
use Rattle.moment_pieces.proofs.turns.put_condition.Goals as goal

pub returns-in-Key : goal.returns-in-Key
returns-in-Key c =
    let left : side.Key c.in-Key.key ≡ side_of c.args.names.now c.args.condition.now.left = sym c.in-Key.is ∙ c.side_of-left.ensures.value in
    record {
      adds =
          on_ok_weaker c.put_key.result
          (λ a. adds_as c.args.set.now.keys c.put_key.new.set.keys
          (λ m. sides_turn c.args.scale.now c.args.condition.now m (side.Key c.in-Key.key) c.args.condition.now.right && nat_le m c.args.scale.now.limit)
          (λ m. condition_turns c.args.names.now c.args.scale.now m c.args.condition.now && nat_le m c.args.scale.now.limit)
          a (λ m. ap (λ b. b && nat_le m c.args.scale.now.limit)
          (turns_by_side c.args.names.now c.args.scale.now m c.args.condition.now (side.Key c.in-Key.key) left)))
          c.put_key.ensures.adds;
    }

pub returns-in-Expr : goal.returns-in-Expr
returns-in-Expr c =
    let left : side.Expr c.in-Expr.field-0 ≡ side_of c.args.names.now c.args.condition.now.left = sym c.in-Expr.is ∙ c.side_of-left.ensures.value in
    record {
      adds =
          adds_none c.args.set.now.keys
          (λ m. condition_turns c.args.names.now c.args.scale.now m c.args.condition.now && nat_le m c.args.scale.now.limit)
          (λ m. nothing_within (condition_turns c.args.names.now c.args.scale.now m c.args.condition.now) (nat_le m c.args.scale.now.limit)
          (turns_by_side c.args.names.now c.args.scale.now m c.args.condition.now (side.Expr c.in-Expr.field-0) left
          ∙ name_turns_not c.args.scale.now m c.args.condition.now c.in-Expr.field-0 c.args.condition.now.right));
    }
