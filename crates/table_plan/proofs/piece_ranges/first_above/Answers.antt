use Rattle.std.proofs.Common.{sym, ◌∙◌}
use Rattle.table_plan.proofs.RowSteps.{above_open, above_closed}
use Rattle.table_plan.proofs.piece_ranges.first_above.Goals as goal

pub returns-in-Bound-default-true : goal.returns-in-Bound-default-true
returns-in-Bound-default-true c = λ x.
    above_open c.args.column.now.cuts c.args.low.now c.in-Bound-default-true.number c.in-Bound-default-true.field-1 c.piece.result c.in-Bound-default-true.is (sym c.in-Bound-default-true.field-1-is ∙ c.in-Bound-default-true.field-1-test) c.requires c.piece.ensures.value x

pub returns-in-Bound-default-false : goal.returns-in-Bound-default-false
returns-in-Bound-default-false c = λ x.
    above_closed c.args.column.now.cuts c.args.low.now c.in-Bound-default-false.number c.in-Bound-default-false.field-1 c.piece-in-Bound-default-false.result c.in-Bound-default-false.is (sym c.in-Bound-default-false.field-1-is ∙ c.in-Bound-default-false.field-1-test) c.requires c.piece-in-Bound-default-false.ensures.value x
