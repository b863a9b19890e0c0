use Rattle.std.proofs.Common.{◌≡◌, map, take}
use Rattle.verdict_meaning.specs.Grids.{number_of_key}
use Rattle.report_lines.proofs.state.inputs_of.Given as goal

abbrev pub invariant-loop-key : goal.invariant-loop-key
invariant-loop-key l = l.inputs ≡ map (λ key. number_of_key key l.values) (take l.key-index l.keys)
