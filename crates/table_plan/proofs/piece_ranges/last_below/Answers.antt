use Rattle.std.proofs.Common.{sym, ◌∙◌}
use Rattle.table_plan.proofs.RowSteps.{below_open, below_closed, below_none}
use Rattle.table_plan.proofs.piece_ranges.last_below.Goals as goal

pub returns-in-NoBound : goal.returns-in-NoBound
returns-in-NoBound c = λ x. below_none c.args.column.now.cuts c.args.high.now c.count.result c.in-NoBound.is c.count.ensures.value x

pub returns-in-Bound-default-true : goal.returns-in-Bound-default-true
returns-in-Bound-default-true c = λ x.
    below_open c.args.column.now.cuts c.args.high.now c.in-Bound-default-true.number c.in-Bound-default-true.field-1 c.piece.result c.in-Bound-default-true.is (sym c.in-Bound-default-true.field-1-is ∙ c.in-Bound-default-true.field-1-test) c.requires c.piece.ensures.value x

pub returns-in-Bound-default-false : goal.returns-in-Bound-default-false
returns-in-Bound-default-false c = λ x.
    below_closed c.args.column.now.cuts c.args.high.now c.in-Bound-default-false.number c.in-Bound-default-false.field-1 c.piece-in-Bound-default-false.result c.in-Bound-default-false.is (sym c.in-Bound-default-false.field-1-is ∙ c.in-Bound-default-false.field-1-test) c.requires c.piece-in-Bound-default-false.ensures.value x
