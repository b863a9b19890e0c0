use Rattle.std.proofs.Common.{◌≡◌, ◌++◌, take}
use Rattle.std.specs.List.{flat_map}
use Rattle.report_text.specs.internal.RowTexts.{value_texts}
use Rattle.report_text.proofs.state.write_values.Given as goal

-- the text so far
abbrev pub invariant-loop-key : goal.invariant-loop-key
invariant-loop-key l =
    l.out.items ≡ l.initial.out.items ++ flat_map (value_texts l.rules l.objects l.state) (take l.key-index l.keys)
