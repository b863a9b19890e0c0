use Rattle.table_plan.proofs.DraftLists.{made_more, made_taken}
use Rattle.table_plan.proofs.rising_cuts.columns_of.Goals as goal

pub loop-draft-preserved : goal.loop-draft-preserved
loop-draft-preserved c =
    made_more c.as_slice-draft-items.result.now c.loop-draft.draft-index c.draft-item.result c.loop-draft.columns.items c.push.new.self.items c.in_ok-column_of.field-0
    c.loop-draft-test.true c.draft-item.is c.in_ok-push.ensures.items c.loop-draft.invariant c.in_ok-column_of.ensures.side c.in_ok-column_of.ensures.cuts c.in_ok-column_of.ensures.from

pub returns : goal.returns
returns c = made_taken c.args.drafts.items c.as_slice-draft-items.result.now c.loop-draft.draft-index c.loop-draft.columns.items c.as_slice-draft-items.ensures.value c.loop-draft-test.false c.loop-draft.invariant
