use Rattle.std.proofs.Common.{◌≡◌, ◌++◌, take}
use Rattle.std.specs.List.{flat_map}
use Rattle.report_text.specs.internal.RowTexts.{fact_text}
use Rattle.report_text.proofs.tree.write_facts.Given as goal

-- the text so far
abbrev pub invariant-loop-fact : goal.invariant-loop-fact
invariant-loop-fact l =
    l.out.items ≡ l.initial.out.items ++ flat_map fact_text (take l.fact-index l.facts)
