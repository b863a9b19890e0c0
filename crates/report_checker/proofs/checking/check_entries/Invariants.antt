use Rattle.std.proofs.Common.{◌≡◌, ◌-◌}
use Rattle.report_checker.specs.Accepted.{entries_judged, no_counts}
use Rattle.report_checker.proofs.checking.check_entries.Given as goal

-- the entries from here on give what all entries give
abbrev pub invariant-loop-turn : goal.invariant-loop-turn
invariant-loop-turn l =
    entries_judged l.report.rules.now l.tables l.report.objects.now l.ranges l.report.lines.now
    l.report.facts (l.most - l._turn) l.place.at l.place.counts
    ≡ entries_judged l.report.rules.now l.tables l.report.objects.now l.ranges l.report.lines.now
    l.report.facts l.most 1 no_counts
