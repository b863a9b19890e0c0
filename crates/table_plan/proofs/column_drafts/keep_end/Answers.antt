use Rattle.std.proofs.Common.{List, get_or, sym, ap, subst, ◌∙◌}
use Rattle.rule_types.specs.declared.condition.Side.{Side}
use Rattle.table_plan.specs.declared.column_drafts.ColumnDraft.{ColumnDraft}
use Rattle.table_plan.specs.internal.Collected.{Places, draft_sides, IsKept}
use Rattle.table_plan.proofs.DraftLists.{drafts_grown, side_there, draft_there, sides_with_end, kept_with_end, kept_others, blank_draft}
use Rattle.table_plan.proofs.column_drafts.keep_end.Goals as goal

pub add_end-requires : goal.add_end-requires
add_end-requires c = (draft_there c.place_of.new.drafts.items c.in_ok-at.at c.args.end.now.side (blank_draft c.args.end.now.side) c.in_ok-at.ensures.place).0

pub returns-clause-placed : goal.returns-clause-placed
returns-clause-placed c =
    let there = draft_there c.place_of.new.drafts.items c.in_ok-at.at c.args.end.now.side (blank_draft c.args.end.now.side) c.in_ok-at.ensures.place in
    let draft = get_or c.place_of.new.drafts.items c.in_ok-at.at (blank_draft c.args.end.now.side) in
    let P : List Side → Type 0 = λ sides. Places c.place_of.new.places sides in
    subst P (sym (ap draft_sides (c.in_ok-add_end.ensures draft there.1) ∙ sides_with_end c.place_of.new.drafts.items c.in_ok-at.at draft c.args.end.now.bound there.1)) c.in_ok-at.ensures.placed

pub returns-clause-kept : goal.returns-clause-kept
returns-clause-kept c =
    let there = draft_there c.place_of.new.drafts.items c.in_ok-at.at c.args.end.now.side (blank_draft c.args.end.now.side) c.in_ok-at.ensures.place in
    let draft = get_or c.place_of.new.drafts.items c.in_ok-at.at (blank_draft c.args.end.now.side) in
    let P : List ColumnDraft → Type 0 = λ drafts. IsKept drafts c.args.end.now in
    subst P (sym (c.in_ok-add_end.ensures draft there.1)) (kept_with_end c.place_of.new.drafts.items c.in_ok-at.at draft c.args.end.now c.in_ok-at.ensures.place there.1)

pub returns-clause-others : goal.returns-clause-others
returns-clause-others c = λ e kept.
    let there = draft_there c.place_of.new.drafts.items c.in_ok-at.at c.args.end.now.side (blank_draft c.args.end.now.side) c.in_ok-at.ensures.place in
    let draft = get_or c.place_of.new.drafts.items c.in_ok-at.at (blank_draft c.args.end.now.side) in
    let P : List ColumnDraft → Type 0 = λ drafts. IsKept drafts e in
    subst P (sym (c.in_ok-add_end.ensures draft there.1)) (kept_others c.place_of.new.drafts.items c.in_ok-at.at draft c.args.end.now.bound there.1 e (c.in_ok-at.ensures.others e kept))

pub returns-clause-from : goal.returns-clause-from
returns-clause-from c = λ all there rest.
    let found = draft_there c.place_of.new.drafts.items c.in_ok-at.at c.args.end.now.side (blank_draft c.args.end.now.side) c.in_ok-at.ensures.place in
    let draft = get_or c.place_of.new.drafts.items c.in_ok-at.at (blank_draft c.args.end.now.side) in
    drafts_grown all c.place_of.new.drafts.items c.add_end.new.drafts.items c.in_ok-at.at draft c.args.end.now c.in_ok-at.ensures.place found.1 (c.in_ok-add_end.ensures draft found.1) there
    (c.in_ok-at.ensures.from all (side_there all c.args.end.now there) rest)
