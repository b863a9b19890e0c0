use Rattle.std.proofs.Common.{◌≡◌, drop}
use Rattle.std.specs.List.{list_any}
use Rattle.block_search.specs.Blocks.{is_none}
use Rattle.block_search.proofs.block.has_none.Given as goal

abbrev pub invariant-loop-span : goal.invariant-loop-span
invariant-loop-span l = list_any is_none l.block ≡ list_any is_none (drop l.span-index l.block)
