use Rattle.std.proofs.Common.{◌≡◌, ◌++◌, drop}
use Rattle.inp_text.specs.Items.{places_from}
use Rattle.inp_text.proofs.line.words_in.Given as goal

abbrev pub invariant-loop-index : goal.invariant-loop-index
invariant-loop-index l = places_from 0 0 l.text ≡ l.places.items ++ places_from l.start l.index (drop l.index l.text)
