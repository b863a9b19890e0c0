-- What the keys of conditions are worth at a state.
use Rattle.std.specs.Prelude.{ℕ, Bool, ◌==◌, if◌then◌else◌, Option, Some, None, option_and_then}
use Rattle.std.specs.Prelude.{List, [], ◌∷◌}
use Rattle.std.specs.Str.{bytes_eq}
use Rattle.exact_fraction.specs.Number.{Rational, zero, one}
use Rattle.exact_fraction.specs.Order.{less, same}
use Rattle.rule_types.specs.declared.key.Attr.{Attr}
use Rattle.rule_types.specs.declared.key.Attr.TheVariants.{Setting, Status, TimeOpen, TimeClosed}
use Rattle.rule_types.specs.declared.key.Key.{Key}
use Rattle.rule_types.specs.declared.key.Key.TheVariants.{Object, Clock}
use Rattle.rule_types.specs.declared.rules.Rules.{Rules}
use Rattle.rule_types.specs.declared.state.LinkState.{LinkState}
use Rattle.rule_types.specs.declared.state.State.{State}
use Rattle.rule_types.specs.KeyOrder.{key_place}
use Rattle.rule_meaning.specs.Clock.{clock_value}

-- what stands beside the first thing that passes a test, in two lists side by side
unfoldable pub beside : {A B : Type 0} → (A → Bool) → List A → List B → Option B
beside passes [] values = None
beside passes (thing ∷ things) [] = None
beside passes (thing ∷ things) (value ∷ values) =
    if passes thing then Some value else beside passes things values

-- the number of an input key, which the trace gives, or nothing
unfoldable pub input_value : Rules → State → Key → Option Rational
input_value x s key =
    option_and_then (λ given. given)
    (beside (λ other. bytes_eq (key_place key) (key_place other)) x.input_keys s.inputs)

-- the state of a tracked link
unfoldable pub link_state : Rules → State → ℕ → Option LinkState
link_state x s link = beside (λ other. link == other) x.tracked s.links

-- 1 where a setting is above 0, else 0 (SWMM 5.2 manual, [CONTROLS], STATUS)
unfoldable pub status_of : Rational → Rational
status_of setting = if less zero setting then one else zero

-- an attribute of a link that is read off its setting and its timer: the time since the last switch
-- is TIMEOPEN where the setting is above 0 and TIMECLOSED where it is 0, and the other one is
-- missing (SWMM 5.2 manual, [CONTROLS])
unfoldable pub link_value : Attr → LinkState → Option Rational
link_value Setting link = Some link.setting
link_value Status link = Some (status_of link.setting)
link_value TimeOpen link = if less zero link.setting then Some link.timer else None
link_value TimeClosed link = if same link.setting zero then Some link.timer else None
link_value attribute link = None

-- The value of a key at a state, or nothing where it is missing: a link's setting, status and
-- timers from the link, the clock from the moment, every other key from the trace (SWMM 5.2 manual,
-- [CONTROLS]).
unfoldable pub value : Rules → State → Key → Option Rational
value x s (Object object Setting) =
    option_and_then (link_value Setting) (link_state x s object.index)
value x s (Object object Status) = option_and_then (link_value Status) (link_state x s object.index)
value x s (Object object TimeOpen) =
    option_and_then (link_value TimeOpen) (link_state x s object.index)
value x s (Object object TimeClosed) =
    option_and_then (link_value TimeClosed) (link_state x s object.index)
value x s (Object object attribute) = input_value x s (Object object attribute)
value x s (Clock attribute) = Some (clock_value attribute s.start s.moment)
