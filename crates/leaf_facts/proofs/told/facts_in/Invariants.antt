use Rattle.std.proofs.Common.{◌≡◌}
use Rattle.std.specs.List.{flat_map, range_with_len}
use Rattle.leaf_facts.specs.internal.BoxFacts.{fact_on}
use Rattle.leaf_facts.proofs.told.facts_in.Given as goal

abbrev pub invariant-loop-number : goal.invariant-loop-number
invariant-loop-number l =
    l.facts.items ≡ flat_map (fact_on l.rules l.question l.cell) (range_with_len 0 l.number)
