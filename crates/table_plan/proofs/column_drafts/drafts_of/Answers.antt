use Rattle.std.proofs.Common.{List, All, sym, subst, arith}
use Rattle.std.proofs.lemmas.List.Elements.{All-nil}
use Rattle.table_plan.specs.declared.column_drafts.ColumnDraft.{ColumnDraft}
use Rattle.table_plan.specs.internal.Collected.{Places, draft_sides, IsKept, IsDraftOf}
use Rattle.table_plan.proofs.CutLists.{all_taken}
use Rattle.table_plan.proofs.PlaceLists.{places_none}
use Rattle.table_plan.proofs.DraftLists.{kept_more}
use Rattle.table_plan.proofs.column_drafts.drafts_of.Goals as goal

pub loop-end-init : goal.loop-end-init
loop-end-init c = record {
  placed = let P : List ColumnDraft → Type 0 = λ drafts. Places c.args.places.now (draft_sides drafts) in subst P (sym c.new-drafts.ensures.items) (places_none c.args.places.now c.requires);
  kept = All-nil (IsKept c.new-drafts.result.items);
  from = subst (All (IsDraftOf c.args.ends.now)) (sym c.new-drafts.ensures.items) (All-nil (IsDraftOf c.args.ends.now));
}

pub loop-end-preserved : goal.loop-end-preserved
loop-end-preserved c = record {
  placed = c.in_ok-keep_end.ensures.placed;
  kept = kept_more c.args.ends.now c.loop-end.end-index c.end-item.result c.loop-end.drafts.items c.keep_end.new.drafts.items c.loop-end-test.true c.end-item.is c.loop-end.invariant.kept c.in_ok-keep_end.ensures.others c.in_ok-keep_end.ensures.kept;
  from = c.in_ok-keep_end.ensures.from c.args.ends.now (c.loop-end.end-index, c.loop-end-test.true, sym c.end-item.is) c.loop-end.invariant.from;
}

pub returns-clause-kept : goal.returns-clause-kept
returns-clause-kept c = all_taken (IsKept c.loop-end.drafts.items) c.args.ends.now c.loop-end.end-index (omega arith) c.loop-end.invariant.kept
