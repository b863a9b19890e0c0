use Rattle.rule_types.specs.Tables.{IsPointList}
use Rattle.curves_series.specs.Reading.{series_read}
use Rattle.curves_series.specs.internal.Views.{groups_now}
use Rattle.curves_series.proofs.HeldTables.{IsReadTo}
use Rattle.curves_series.proofs.reading.read_all_series.Given as goal

-- what is held and refused so far gives, with the tables from here on, what all give
abbrev pub invariant-loop-at : goal.invariant-loop-at
invariant-loop-at l =
    IsReadTo (series_read l.controls (groups_now l.groups)) (λ table. IsPointList table.points)
    (groups_now l.groups) l.at l.read.held.items l.read.refusal
