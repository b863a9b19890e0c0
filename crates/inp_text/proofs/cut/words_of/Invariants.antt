use Rattle.std.proofs.Common.{◌≡◌, ◌++◌, drop, map}
use Rattle.inp_text.specs.Items.{texts_at, places_from}
use Rattle.inp_text.proofs.cut.words_of.Given as goal

abbrev pub invariant-loop-index : goal.invariant-loop-index
invariant-loop-index l =
    texts_at l.text (places_from 0 0 l.text)
    ≡ map (λ item. item.now) l.found.items
    ++ texts_at l.text (places_from l.start l.index (drop l.index l.text))
