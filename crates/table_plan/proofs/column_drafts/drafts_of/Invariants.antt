use Rattle.std.proofs.Common.{take, All}
use Rattle.table_plan.specs.internal.Collected.{Places, draft_sides, IsKept, IsDraftOf}
use Rattle.table_plan.proofs.column_drafts.drafts_of.Given as goal

abbrev pub invariant-loop-end : goal.invariant-loop-end
invariant-loop-end l = record {
  placed : Places l.places (draft_sides l.drafts.items);
  kept : All (IsKept l.drafts.items) (take l.end-index l.ends);
  from : All (IsDraftOf l.ends) l.drafts.items;
}
