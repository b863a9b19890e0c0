use Rattle.std.proofs.Common.{◌≡◌, ◌≤◌, ◌-◌, drop, map, length}
use Rattle.curves_series.specs.Series.{entries_of, IsAxis}
use Rattle.curves_series.specs.internal.Views.{pair_now, texts, entries_after}
use Rattle.curves_series.proofs.entry.entries_of.Given as goal

-- the entries so far with those of the items from here on are those of all items
abbrev pub invariant-entries : goal.invariant-entries
invariant-entries l =
    (entries_after (map pair_now l.pairs.items) (entries_of l.axis (drop l.at (texts l.found)))
    ≡ entries_of l.fn.axis (texts l.found))
    × (l.at ≤ length l.found) × IsAxis l.axis

abbrev pub decreases-entries : goal.decreases-entries
decreases-entries l = length l.found - l.at
