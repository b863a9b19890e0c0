-- Ranges that fit rules, and rules that are prepared for ranges.
use Rattle.std.specs.Prelude.{◌≡◌, true, false, Some, IfSome, All, ◌≤ℤ◌}
use Rattle.exact_fraction.specs.Order.{◌≤ℚ◌}
use Rattle.interval_sets.specs.declared.interval.Bound.{Bound}
use Rattle.interval_sets.specs.declared.interval.Bound.TheVariants as end
use Rattle.rule_types.specs.declared.rules.Rules.{Rules}
use Rattle.rule_types.specs.WellFormed.{IsRoutingStep}
use Rattle.verdict_meaning.specs.declared.ranges.Ranges.{Ranges}

-- two ends are the first and the last number of a range: both are in it, and the first is at most
-- the last
abbrev pub AreEnds : Bound → Bound → Type 0
AreEnds (end.Bound p false) (end.Bound q false) = p ≤ℚ q
AreEnds (end.Bound p false) (end.Bound q true) = ⊥
AreEnds (end.Bound p false) end.NoBound = ⊥
AreEnds (end.Bound p true) high = ⊥
AreEnds end.NoBound high = ⊥

-- Ranges fit rules: the step is a routing step, the range of each key has a first and a last
-- number, the first moment is at most the last one, and where there are moments the start is that of
-- the rules, if they have one.
pub record RangesFit (x : Rules) (ranges : Ranges) : Type 0 where
  pub step : IsRoutingStep ranges.step
  pub keys : All (λ entry. AreEnds entry.1.low entry.1.high) ranges.keys
  pub moments : IfSome ranges.moments (λ span. span.0 ≤ℤ span.1)
  pub start : IfSome ranges.moments (λ span. IfSome x.start (λ start. ranges.start ≡ start))

-- the rules prepared for ranges: they have their start and their step, and are else as they were
abbrev pub prepared_rules : Rules → Ranges → Rules
prepared_rules x ranges = record x { start = Some ranges.start; routing_step = ranges.step }
