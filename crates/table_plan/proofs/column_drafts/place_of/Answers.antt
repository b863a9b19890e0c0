use Rattle.std.proofs.Common.{Some, List, sym, ap, subst, ◌∙◌, rules}
use Rattle.rule_types.specs.declared.condition.Side.{Side}
use Rattle.table_plan.specs.declared.column_drafts.ColumnDraft.{ColumnDraft}
use Rattle.table_plan.specs.internal.Collected.{place_in, Places, draft_sides, IsKept}
use Rattle.table_plan.proofs.PlaceLists.{places_found, places_pushed, place_itself}
use Rattle.table_plan.proofs.DraftLists.{drafts_pushed, kept_pushed, sides_pushed, counted_sides}
use Rattle.table_plan.proofs.column_drafts.place_of.Goals as goal

pub returns-in-Some-clause-place : goal.returns-in-Some-clause-place
returns-in-Some-clause-place c =
    sym (places_found c.args.places.now (draft_sides c.args.drafts.now.items) c.args.side c.requires) ∙ sym c.place.ensures ∙ c.in-Some.is

pub returns-clause-placed : goal.returns-clause-placed
returns-clause-placed c =
    let P : List Side → Type 0 = λ sides. Places c.insert.new.self sides in
    subst P (sym (sides_pushed c.args.drafts.now.items c.push.new.self.items _ c.in_ok-push.ensures.items))
    (places_pushed c.args.places.now c.insert.new.self (draft_sides c.args.drafts.now.items) c.args.side c.len-at.result c.requires (sym c.place.ensures ∙ c.in_default.is)
    (counted_sides c.args.drafts.now.items c.len-at.result (search rules)) c.in_ok-insert.ensures)

pub returns-clause-place : goal.returns-clause-place
returns-clause-place c =
    ap (λ sides. place_in sides c.args.side) (sides_pushed c.args.drafts.now.items c.push.new.self.items _ c.in_ok-push.ensures.items)
    ∙ place_itself (draft_sides c.args.drafts.now.items) c.args.side (sym (places_found c.args.places.now (draft_sides c.args.drafts.now.items) c.args.side c.requires) ∙ sym c.place.ensures ∙ c.in_default.is)
    ∙ ap Some (sym (counted_sides c.args.drafts.now.items c.len-at.result (search rules)))

pub returns-clause-others : goal.returns-clause-others
returns-clause-others c = λ e kept.
    let P : List ColumnDraft → Type 0 = λ drafts. IsKept drafts e in
    subst P (sym {A = List ColumnDraft} c.in_ok-push.ensures.items) (kept_pushed c.args.drafts.now.items _ e kept)

pub returns-clause-from : goal.returns-clause-from
returns-clause-from c = λ all there rest.
    drafts_pushed all c.args.drafts.now.items c.push.new.self.items (record { side = c.args.side; ends = c.new.result }) c.in_ok-push.ensures.items c.new.ensures.value there rest
