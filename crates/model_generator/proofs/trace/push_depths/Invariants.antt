use Rattle.std.proofs.Common.{◌≡◌, ◌+◌, ◌-◌, ◌++◌}
use Rattle.std.specs.List.{flat_map, range_with_len}
use Rattle.model_generator.specs.InputFile.{up_to}
use Rattle.model_generator.specs.Trace.{depth_text}
use Rattle.model_generator.proofs.trace.push_depths.Given as goal

-- the text so far, and what is still to come
abbrev pub invariant-loop-number : goal.invariant-loop-number
invariant-loop-number l =
    l.text.items ++ flat_map (depth_text l.row) (range_with_len l.number (l.n + 1 - l.number))
    ≡ l.initial.text.items ++ flat_map (depth_text l.row) (up_to l.n)
