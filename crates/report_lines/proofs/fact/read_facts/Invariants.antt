use Rattle.std.proofs.Common.{◌≡◌, ◌+◌, ◌-◌, [], length}
use Rattle.report_lines.specs.TreeLines.{facts_from}
use Rattle.report_lines.proofs.fact.read_facts.Given as goal

-- the lines from here on give what all lines give
abbrev pub invariant-loop-place : goal.invariant-loop-place
invariant-loop-place l =
    facts_from l.lines l.grid ((length l.lines + l.fn.at) - l.place) l.place l.facts
    ≡ facts_from l.lines l.grid (length l.lines) l.fn.at []
