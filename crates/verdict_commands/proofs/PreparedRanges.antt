-- Ranges that fit rules fit the rules that are prepared for them.
use Rattle.std.proofs.Common.{◌≡◌, Option, None, Some, IfSome, refl}
use Rattle.rule_types.specs.declared.rules.Rules.{Rules}
use Rattle.verdict_meaning.specs.FitRanges.{RangesFit, prepared_rules}
use Rattle.verdict_meaning.specs.declared.ranges.Ranges.{Ranges}

pub prepared_fit : (x : Rules) (ranges : Ranges) → RangesFit x ranges
    → RangesFit (prepared_rules x ranges) ranges
prepared_fit x ranges fit = record {
  step = fit.step;
  keys = fit.keys;
  moments = fit.moments;
  start = any ranges.moments;
}
  where
    any : {A : Type 0} (known : Option A)
        → IfSome known (λ value. ranges.start ≡ ranges.start)
    any None = tt
    any (Some value) = refl
