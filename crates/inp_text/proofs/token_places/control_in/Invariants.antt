use Rattle.std.proofs.Common.{◌≡◌, drop}
use Rattle.inp_text.specs.Control.{control_from}
use Rattle.inp_text.proofs.token_places.control_in.Given as goal

abbrev pub invariant-loop-index : goal.invariant-loop-index
invariant-loop-index l = control_from 0 l.text ≡ control_from l.index (drop l.index l.text)
