use Rattle.std.proofs.Common.{◌≡◌, ℕ, ◌<◌, ◌≤◌, ◌-◌, true, false, length, get_or}
use Rattle.exact_fraction.specs.Order.{less}
use Rattle.rule_types.specs.declared.table.Point.{Point}
use Rattle.curves_series.proofs.values.count_below.Given as goal

-- the points before `low` are below x, and those from `high` on are not
abbrev pub invariant-halving : goal.invariant-halving
invariant-halving l =
    (l.low ≤ l.high) × (l.high ≤ length l.points)
    × ((k : ℕ) (d : Point) → k < l.low → less (get_or l.points k d).x l.x ≡ true)
    × ((k : ℕ) (d : Point) → l.high ≤ k → k < length l.points → less (get_or l.points k d).x l.x ≡ false)

abbrev pub decreases-halving : goal.decreases-halving
decreases-halving l = l.high - l.low
