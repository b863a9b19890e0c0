use Rattle.std.proofs.Common.{◌≡◌, drop}
use Rattle.inp_text.specs.internal.FirstItems.{drop_blanks}
use Rattle.inp_text.proofs.heading.without_blanks.Given as goal

abbrev pub invariant-loop-index : goal.invariant-loop-index
invariant-loop-index l = drop_blanks l.text ≡ drop_blanks (drop l.index l.text)
