use Rattle.std.proofs.Common.{sym, ◌∙◌}
use Rattle.std.specs.List.{list_any}
use Rattle.table_plan.specs.Plan.{pieces_of}
use Rattle.table_plan.specs.PlanRows.{part_by}
use Rattle.table_plan.proofs.RowSteps.{part_none, part_number, part_ranges, cuts_planned, place_inside, column_there}
use Rattle.table_plan.proofs.part_plans.add_part.Goals as goal

pub returns-in_default : goal.returns-in_default
returns-in_default c = λ value truth.
    part_none c.args.columns.now c.args.places.now c.in-Column.side c.in-Column.set c.args.part.now c.requires.placed c.in-Column.is c.requires.planned (sym c.place.ensures ∙ c.in_default.is) value truth
    (list_any (part_by (pieces_of c.args.columns.now value) truth) c.args.plan.now.items)

pub column_at-requires : goal.column_at-requires
column_at-requires c = place_inside c.args.columns.now c.args.places.now c.in-Column.side c.in-Some.at c.requires.placed (sym c.place.ensures ∙ c.in-Some.is)

pub add_set-requires : goal.add_set-requires
add_set-requires c =
    let place = column_there c.args.columns.now c.args.places.now c.in-Column.side c.in-Some.at c.column_at.result.now c.requires.placed (sym c.place.ensures ∙ c.in-Some.is) c.column_at.ensures in
    cuts_planned c.args.columns.now c.in-Column.side c.in-Column.set c.pieces.result.now c.args.part.now c.column_at.result.now.cuts c.in-Column.is c.pieces.ensures.value place.1 c.requires.planned

pub returns-in_ok-add_set-in-Column : goal.returns-in_ok-add_set-in-Column
returns-in_ok-add_set-in-Column c = λ value truth.
    let place = column_there c.args.columns.now c.args.places.now c.in-Column.side c.in-Some.at c.column_at.result.now c.requires.placed (sym c.place.ensures ∙ c.in-Some.is) c.column_at.ensures in
    part_ranges c.args.columns.now c.in-Column.side c.in-Column.set c.pieces.result.now c.args.part.now c.column_at.result.now.cuts c.in-Some.at c.args.plan.now.items c.add_set.new.plan.items
    c.in-Column.is c.pieces.ensures.value place.1 place.0 c.in_ok-add_set-in-Column.ensures value truth

pub returns-in_ok-push-in-Number : goal.returns-in_ok-push-in-Number
returns-in_ok-push-in-Number c = λ value truth.
    part_number (pieces_of c.args.columns.now value) value truth c.args.part.now c.in-Number.place c.args.plan.now.items c.push.new.self.items c.in-Number.is c.in_ok-push-in-Number.ensures.items
