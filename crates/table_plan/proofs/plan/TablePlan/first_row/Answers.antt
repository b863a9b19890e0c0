use Rattle.std.proofs.Common.{◌∙◌, None, Some}
use Rattle.table_plan.proofs.FlatTables.{table_at}
use Rattle.table_plan.proofs.KeptRows.{first_at, orders_by}
use Rattle.table_plan.proofs.plan.TablePlan.first_row.Goals as goal

pub first_row_of-requires : goal.first_row_of-requires
first_row_of-requires g c = table_at c.self.inside.tables c.args.table c.in_ok-table.table.now c.self.invariant.1 c.in_ok-table.ensures.value

pub returns-in_err-table-clause-first : goal.returns-in_err-table-clause-first
returns-in_err-table-clause-first g c =
    c.from_residual.ensures
    ∙ first_at c.args.self.now c.self.inside.columns c.self.inside.tables c.args.table c.args.pieces.now (g.T.Truths.truth c.args.truths.now) None c.self.view_is c.in_err-table.ensures.value

pub returns-in_err-table-clause-orders : goal.returns-in_err-table-clause-orders
returns-in_err-table-clause-orders g c = λ tables told planned pieces_is truth_is.
    orders_by c.args.self.now tables c.args.table told c.args.pieces.now (g.T.Truths.truth c.args.truths.now) c.from_residual.result
    (c.from_residual.ensures
    ∙ first_at c.args.self.now c.self.inside.columns c.self.inside.tables c.args.table c.args.pieces.now (g.T.Truths.truth c.args.truths.now) None c.self.view_is c.in_err-table.ensures.value)
    planned pieces_is truth_is

pub returns-clause-first : goal.returns-clause-first
returns-clause-first g c =
    c.first_row_of.ensures
    ∙ first_at c.args.self.now c.self.inside.columns c.self.inside.tables c.args.table c.args.pieces.now (g.T.Truths.truth c.args.truths.now) (Some c.in_ok-table.table.now) c.self.view_is c.in_ok-table.ensures.value

pub returns-clause-orders : goal.returns-clause-orders
returns-clause-orders g c = λ tables told planned pieces_is truth_is.
    orders_by c.args.self.now tables c.args.table told c.args.pieces.now (g.T.Truths.truth c.args.truths.now) c.first_row_of.result
    (c.first_row_of.ensures
    ∙ first_at c.args.self.now c.self.inside.columns c.self.inside.tables c.args.table c.args.pieces.now (g.T.Truths.truth c.args.truths.now) (Some c.in_ok-table.table.now) c.self.view_is c.in_ok-table.ensures.value)
    planned pieces_is truth_is
