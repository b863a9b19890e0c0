use Rattle.std.proofs.Common.{take}
use Rattle.table_plan.specs.internal.Collected.{AreMadeOf}
use Rattle.table_plan.proofs.rising_cuts.columns_of.Given as goal

abbrev pub invariant-loop-draft : goal.invariant-loop-draft
invariant-loop-draft l =
    AreMadeOf (take l.draft-index l.draft-items) l.columns.items
