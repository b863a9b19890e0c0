-- Links on their way.
use Rattle.std.specs.Prelude.{◌≡◌, ℕ, ◌+◌, ◌*◌, ◌/◌, IsTrue, Option, Some, None, List}
use Rattle.std.specs.Prelude.{slice_get, map}
use Rattle.std.specs.Int.{◌∣◌}
use Rattle.exact_fraction.specs.Number.{Rational, zero, one, den}
use Rattle.exact_fraction.specs.Order.{◌≤ℚ◌}
use Rattle.rule_types.specs.declared.action.Order.{Order}
use Rattle.rule_types.specs.declared.state.LinkState.{LinkState}
use Rattle.rule_types.specs.WellFormed.{has_rate, IsRate}
use Rattle.rule_meaning.specs.History.{new_target}

-- a link can be on its way from a setting to a target: both are at least 0, and at most 1 on a link
-- with a rate
pub record IsOnItsWay (rate setting target : Rational) : Type 0 where
  pub setting_least : zero ≤ℚ setting
  pub target_least : zero ≤ℚ target
  pub setting_most : IsTrue (has_rate rate) → setting ≤ℚ one
  pub target_most : IsTrue (has_rate rate) → target ≤ℚ one

-- so many billionths, from 0 to 1
pub record IsReach (reach : Rational) : Type 0 where
  pub least : zero ≤ℚ reach
  pub most : reach ≤ℚ one
  pub exact : den reach ∣ 1000000000

-- the nearest number of billionths to part / whole, half upward
abbrev pub billionths_of : ℕ → ℕ → ℕ
billionths_of part whole = (2 * (part * 1000000000) + whole) / (2 * whole)

-- each link can be on its way, by its rate, to the target that orders give it
abbrev pub CanMove : List Order → List ℕ → List Rational → List LinkState → Type 0
CanMove orders tracked rates links =
    (k link : ℕ) (rate : Rational) (old : LinkState)
    → slice_get tracked k ≡ Some link → slice_get rates k ≡ Some rate → slice_get links k ≡ Some old
    → IsRate rate × IsOnItsWay rate old.setting (new_target orders link old.target)

-- the setting of the link at a place, and those at some places
abbrev pub setting_or_zero : Option LinkState → Rational
setting_or_zero None = zero
setting_or_zero (Some link) = link.setting

abbrev pub settings_at : List LinkState → List ℕ → List Rational
settings_at links = map (λ place. setting_or_zero (slice_get links place))
