use Rattle.std.proofs.Common.{◌≡◌, drop}
use Rattle.trace_csv.specs.Fields.{without_front_blanks}
use Rattle.trace_csv.proofs.field.without_front_blanks.Given as goal

abbrev pub invariant-loop-index : goal.invariant-loop-index
invariant-loop-index l = without_front_blanks l.text ≡ without_front_blanks (drop l.index l.text)
