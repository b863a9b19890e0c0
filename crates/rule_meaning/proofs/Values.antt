-- Bounds of values, and timers.
use Rattle.std.proofs.Common.{◌≡◌, Bool, true, false, not, Some, None, Result, Ok, Err, List, [], ◌∷◌, refl, arith}
use Rattle.std.specs.Prelude.{IfOk, if◌then◌else◌}
use Rattle.std.specs.Option.{is_some}
use Rattle.exact_fraction.specs.Number.{Rational, den, whole, zero, one}
use Rattle.exact_fraction.specs.Order.{◌≤ℚ◌, less, same, greater_of}
use Rattle.exact_fraction.specs.Operations.{sum_of, round9_of}
use Rattle.exact_fraction.specs.Checked.{checked}
use Rattle.std.proofs.lemmas.Int.{ints}
use Rattle.exact_fraction.specs.declared.error.Overflow.{Overflow}
use Rattle.exact_fraction.proofs.PublicLaws.{order-reflexive, order-greater, order-lesser, order_steps}
use Rattle.rule_types.specs.declared.action.PidSet.{PidSet}
use Rattle.rule_types.specs.declared.action.PidMemory.{PidMemory}
use Rattle.rule_types.specs.declared.key.Attr.TheVariants.{TimeOpen, TimeClosed}
use Rattle.rule_types.specs.declared.state.LinkState.{LinkState}
use Rattle.rule_types.specs.declared.table.Point.{Point}
use Rattle.rule_meaning.specs.State.{link_value}
use Rattle.rule_meaning.specs.CheckedSteps.{◌>>=◌}
use Rattle.rule_meaning.specs.StraightLines.{line_from, at_least_zero, line_value}
use Rattle.rule_meaning.specs.Pid.{IsPidValue, error_of, unstuck, change_of, bounded, pid_step}
use Rattle.rule_meaning.proofs.Moves.{lesser_least_by}

clamped : (r : Result Rational Overflow) → IfOk (at_least_zero r) (λ y. zero ≤ℚ y)
unfolding line_value
clamped (Ok y) = (order-greater zero y).0
clamped (Err why) = tt

pub line_at_least_zero : (points : List Point) (x : Rational) → IfOk (line_value points x) (λ y. zero ≤ℚ y)
unfolding line_value
line_at_least_zero [] x = order-reflexive zero
line_at_least_zero (p ∷ more) x = clamped (line_from p more x)

-- what the last step of a chain gives
last_step : {A B E : Type 0} (P : B → Type 0) (r : Result A E) (next : A → Result B E) → ((a : A) → IfOk (next a) P) → IfOk (r >>= next) P
last_step P (Ok a) next h = h a
last_step P (Err why) next h = tt

pub zero_below_one : zero ≤ℚ one
unfolding whole den
zero_below_one = record { le = omega (arith, ints) }

bounded_in : (pump : Bool) (q : Rational) → IsPidValue pump (bounded pump q)
unfolding bounded
bounded_in true q = record { least = (order-greater zero q).0; most = λ h. (let no : true ≡ false = h in grind arith) }
bounded_in false q = record {
  least = lesser_least_by zero one (greater_of zero q) (less (greater_of zero q) one) refl zero_below_one ((order-greater zero q).0);
  most = λ h. (order-lesser one (greater_of zero q)).0;
}

pub pid_in_bounds : (set : PidSet) (set_point x old minutes : Rational) (pump : Bool) (before : PidMemory) → IfOk (pid_step set set_point x old minutes pump before) (λ stepped. IsPidValue pump stepped.value)
unfolding pid_step
pid_in_bounds set set_point x old minutes pump before =
    last_step _ (error_of set_point x) _ (λ e0.
    last_step _ (unstuck e0 before) _ (λ memory.
    last_step _ (change_of set e0 memory minutes) _ (λ change.
    last_step _ (checked (sum_of old change)) _ (λ moved.
    last_step _ (checked (round9_of moved)) _ (λ rounded. bounded_in pump rounded)))))

closed_where_not_open : (q : Rational) → zero ≤ℚ q → same q zero ≡ not (less zero q)
closed_where_not_open q h = grind (arith, order_steps)

present_by : (a b : Bool) (timer : Rational) → b ≡ not a → is_some (if b then Some timer else None) ≡ not (is_some (if a then Some timer else None))
present_by true true timer e = grind arith
present_by true false timer e = refl
present_by false true timer e = refl
present_by false false timer e = grind arith

pub one_timer : (link : LinkState) → zero ≤ℚ link.setting → is_some (link_value TimeClosed link) ≡ not (is_some (link_value TimeOpen link))
unfolding link_value
one_timer link h = present_by (less zero link.setting) (same link.setting zero) link.timer (closed_where_not_open link.setting h)
