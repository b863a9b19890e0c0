use Rattle.std.proofs.Common.{◌≡◌, ◌++◌, take, drop}
use Rattle.inp_text.specs.internal.FirstItems.{take_solid}
use Rattle.inp_text.proofs.heading.without_rest.Given as goal

abbrev pub invariant-loop-index : goal.invariant-loop-index
invariant-loop-index l = take_solid l.text ≡ take l.index l.text ++ take_solid (drop l.index l.text)
