use Rattle.std.proofs.Common.{◌≡◌, take}
use Rattle.std.specs.List.{flat_map}
use Rattle.rule_meaning.specs.Settled.{as_list}
use Rattle.priority_settle.proofs.table.held_pairs.Given as goal

abbrev pub invariant-loop-held : goal.invariant-loop-held
invariant-loop-held l = l.pairs.items ≡ flat_map as_list (take l.held-index l.firsts)
