use Rattle.std.proofs.Common.{◌≡◌, ◌*◌, ◌-◌, ◌++◌}
use Rattle.std.specs.List.{flat_map, range_with_len}
use Rattle.model_generator.specs.Trace.{row_text}
use Rattle.model_generator.proofs.trace.push_rows.Given as goal

-- the text so far, and what is still to come
abbrev pub invariant-loop-row : goal.invariant-loop-row
invariant-loop-row l =
    l.text.items ++ flat_map (row_text l.n) (range_with_len l.row (10 * l.n - l.row))
    ≡ l.initial.text.items ++ flat_map (row_text l.n) (range_with_len 0 (10 * l.n))
