-- Conditions of the clock at a second.
use Rattle.std.proofs.Common.{◌≡◌}
use Rattle.exact_fraction.specs.Number.{Rational}
use Rattle.rule_types.specs.declared.condition.Condition.{Condition}
use Rattle.rule_types.specs.declared.condition.Side.TheVariants as side
use Rattle.rule_types.specs.declared.condition.Right.TheVariants as right
use Rattle.rule_types.specs.declared.key.ClockAttr.{ClockAttr}
use Rattle.rule_types.specs.declared.key.Key.TheVariants.{Clock}
use Rattle.rule_types.specs.declared.rules.Rules.{Rules}
use Rattle.rule_types.specs.declared.state.State.{State}
use Rattle.rule_meaning.specs.Condition.{left_value, right_value, hours_of_step, both_meet, holds}
use Rattle.rule_meaning.specs.Condition.{second_truth}
use Rattle.rule_meaning.specs.State.{value}

pub clock_holds : (x : Rules) (s : State) (c : Condition) (attribute : ClockAttr) (q : Rational)
    → c.left ≡ side.Key (Clock attribute) → c.right ≡ right.Value q
    → holds x s c ≡ second_truth c s.step attribute q s.start s.moment
unfolding holds second_truth left_value right_value value
clock_holds x s c attribute q left right =
    λ i. both_meet c (hours_of_step s.step) (left_value x s (left i)) (right_value x s (right i))
