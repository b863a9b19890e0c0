use Rattle.std.proofs.Common.{◌≡◌, map, take}
use Rattle.block_search.specs.Blocks.{span_from}
use Rattle.verdict_search.proofs.whole_blocks.block_to.Given as goal

abbrev pub invariant-loop-count : goal.invariant-loop-count
invariant-loop-count l =
    l.block.items ≡ map (λ count. span_from 0 count) (take l.count-index l.counts)
