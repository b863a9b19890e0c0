use Rattle.std.proofs.Common.{◌≡◌, true, drop}
use Rattle.std.specs.List.{list_all}
use Rattle.inp_text.specs.Items.{is_blank}
use Rattle.trace_csv.proofs.field.without_end_blanks.Given as goal

abbrev pub invariant-loop-at : goal.invariant-loop-at
invariant-loop-at l = list_all is_blank (drop l.at l.text) ≡ true
