-- The rule that precedes all others that surely act on a link.
use Rattle.std.specs.Prelude.{◌≡◌, ℕ, Bool, false, Option, Some, None}
use Rattle.rule_types.specs.declared.rules.Rules.{Rules}
use Rattle.verdict_meaning.specs.Shown.{KnownPremises, is_preceded, rule_precedes}

-- whether a rule comes after a first one
abbrev pub comes_after : Rules → Option ℕ → ℕ → Bool
comes_after x None number = false
comes_after x (Some first) number = rule_precedes x first number

-- of the rules that surely act on a link this one, if there is one, precedes all others: a rule that
-- one of them precedes comes after it
pub record IsFirstActing (x : Rules) (known : KnownPremises) (link : ℕ) (first : Option ℕ)
    : Type 0 where
  pub each : (number : ℕ) → is_preceded x known number link ≡ comes_after x first number
