use Rattle.std.proofs.Common.{ap}
use Rattle.std.specs.Prelude.{nat_le, slice_get}
use Rattle.moment_pieces.specs.internal.Turns.{rule_turns, used_turn}
use Rattle.moment_pieces.proofs.Gathers.{pending_first, pending_next}
use Rattle.moment_pieces.proofs.turns.put_used.Goals as goal

pub rules-init : goal.rules-init
rules-init c =
    pending_first c.args.set.now.keys (used_turn c.args.rules.now c.args.used.now c.args.scale.now) (λ m. nat_le m c.args.scale.now.limit)

pub rules-preserved : goal.rules-preserved
unfolding used_turn
rules-preserved c =
    pending_next c.args.set.now.keys c.rules.set.keys c.put_rule.new.set.keys
    (λ m. rule_turns c.args.rules.now.names c.args.scale.now m (slice_get c.args.rules.now.rules c.in-Some.number.now))
    (used_turn c.args.rules.now c.rules.left.now c.args.scale.now)
    (used_turn c.args.rules.now c.in-Some.others.now c.args.scale.now)
    (used_turn c.args.rules.now c.args.used.now c.args.scale.now)
    (λ m. nat_le m c.args.scale.now.limit)
    (λ m. ap (λ numbers. used_turn c.args.rules.now numbers c.args.scale.now m) c.in-Some.ensures.cases.0)
    c.rules.invariant c.in_ok-put_rule.ensures.adds
