-- Whether a state lies in a box, key by key.
use Rattle.std.specs.Prelude.{◌≡◌, Bool, true, false, ◌&&◌, Option, Some, None, ℤ, int_le, IsTrue}
use Rattle.std.specs.List.{list_all}
use Rattle.exact_fraction.specs.Number.{Rational}
use Rattle.interval_sets.specs.declared.interval.Interval.{Interval}
use Rattle.interval_sets.specs.Intervals.{lies_in}
use Rattle.rule_types.specs.declared.key.Attr.TheVariants.{Setting, TimeOpen, TimeClosed}
use Rattle.rule_types.specs.declared.key.Key.{Key}
use Rattle.rule_types.specs.declared.key.Key.TheVariants.{Object, Clock}
use Rattle.rule_types.specs.declared.rules.Rules.{Rules}
use Rattle.rule_types.specs.declared.state.LinkState.{LinkState}
use Rattle.rule_types.specs.declared.state.State.{State}
use Rattle.rule_meaning.specs.State.{link_state, value}
use Rattle.verdict_meaning.specs.declared.cell.Cell.{Cell}
use Rattle.verdict_meaning.specs.Premises.{start_of}

-- whether a key is a timer, which a state need not have
abbrev pub is_timer : Key → Bool
is_timer (Object object TimeOpen) = true
is_timer (Object object TimeClosed) = true
is_timer (Object object attribute) = false
is_timer (Clock attribute) = false

-- whether a value lies in a range, or is missing and can be
abbrev pub value_fits : Bool → Interval → Option Rational → Bool
value_fits optional range None = optional
value_fits optional range (Some q) = lies_in range q

-- whether the target of a link lies in the range of its SETTING
abbrev pub target_fits : Interval → Option LinkState → Bool
target_fits range None = true
target_fits range (Some link) = lies_in range link.target

abbrev pub is_target_in : Rules → State → Interval → Key → Bool
is_target_in x s range (Object object Setting) = target_fits range (link_state x s object.index)
is_target_in x s range (Object object attribute) = true
is_target_in x s range (Clock attribute) = true

-- whether a state has a key, unless it is a timer, and its value and the target of its link lie in
-- the key's range
unfoldable pub entry_fits : Rules → State → Key × Interval → Bool
entry_fits x s entry =
    value_fits (is_timer entry.0) entry.1 (value x s entry.0) && is_target_in x s entry.1 entry.0

-- whether two moments are one: neither is before the other
abbrev pub is_at : ℤ → ℤ → Bool
is_at moment other = int_le moment other && int_le other moment

-- whether the moment of a state lies between a first and a last one, and the state starts at a
-- start, where there are moments
unfoldable pub is_in_moments : ℤ → Option (ℤ × ℤ) → State → Bool
is_in_moments start None s = true
is_in_moments start (Some span) s =
    (int_le span.0 s.moment && int_le s.moment span.1) && is_at s.start start

-- a state that fits the rules is one of the ranges whose first box this is
pub record LiesInside (x : Rules) (cell : Cell) (s : State) : Type 0 where
  pub step : s.step ≡ x.routing_step
  pub moments : IsTrue (is_in_moments (start_of x) cell.moments s)
  pub entries : IsTrue (list_all (entry_fits x s) cell.keys)
