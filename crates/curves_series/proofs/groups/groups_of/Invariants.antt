use Rattle.std.proofs.Common.{◌≡◌, [], drop}
use Rattle.curves_series.specs.Groups.{with_lines}
use Rattle.curves_series.specs.internal.Views.{groups_now, IsEven}
use Rattle.curves_series.proofs.groups.groups_of.Given as goal

-- the tables so far with the lines from here on are those of all lines
abbrev pub invariant-loop-line : goal.invariant-loop-line
invariant-loop-line l =
    (with_lines (groups_now l.groups) (drop l.line-index l.lines) ≡ with_lines [] l.lines)
    × IsEven l.groups
