use Rattle.std.proofs.Common.{◌≡◌, drop}
use Rattle.range_lines.specs.Needs.{has_series}
use Rattle.range_lines.proofs.needs.has_series.Given as goal

abbrev pub invariant-loop-rule : goal.invariant-loop-rule
invariant-loop-rule l = has_series (drop l.rule-index l.rules) ≡ has_series l.rules
