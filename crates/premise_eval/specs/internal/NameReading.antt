-- The values of names, one by one.
use Rattle.std.specs.Prelude.{◌≡◌, ℕ, ◌<◌, Bool, IsTrue, Option, Some, Result, Ok, Err, List}
use Rattle.std.specs.Prelude.{slice_get}
use Rattle.exact_fraction.specs.Number.{Rational}
use Rattle.rule_types.specs.declared.names.NameDef.{NameDef}
use Rattle.rule_types.specs.declared.rules.Rules.{Rules}
use Rattle.rule_types.specs.declared.state.State.{State}
use Rattle.rule_types.specs.declared.stop.Stop.{Stop}
use Rattle.rule_meaning.specs.Condition.{number_of}
use Rattle.rule_meaning.specs.Formula.{kind_value}

-- the stop that has come, or a later one
abbrev pub stop_then : {A : Type 0} → Result A Stop → Option Stop → Option Stop
stop_then (Ok done) later = later
stop_then (Err stop) later = Some stop

-- the names before `to` that are asked for have their values
unfoldable pub NamesHeld : Rules → State → (ℕ → Bool) → ℕ → List (Option Rational) → Type 0
NamesHeld x s asks to names =
    (at : ℕ) (named : NameDef) → at < to → slice_get x.names at ≡ Some named → IsTrue (asks at)
    → slice_get names at ≡ Some (number_of (kind_value x s named.stands_for))
