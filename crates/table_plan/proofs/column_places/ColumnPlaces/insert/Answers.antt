use Rattle.std.proofs.Common.{Some, cond, sym, ap, ◌∙◌}
use Rattle.table_compiler.specs.Parts.{same_column}
use Rattle.table_plan.specs.internal.Collected.{found}
use Rattle.table_plan.proofs.PlaceLists.{key_inserted, name_inserted}
use Rattle.table_plan.proofs.column_places.ColumnPlaces.insert.Goals as goal

pub returns-in_ok-insert-in-Key : goal.returns-in_ok-insert-in-Key
returns-in_ok-insert-in-Key c = λ column.
    key_inserted c.in-Key.key c.args.at c.args.self.now.keys c.insert.new.self c.args.self.now.names c.in_ok-insert-in-Key.ensures.updates.0 column
    ∙ ap (λ s. cond (same_column s column) (Some c.args.at) (found c.args.self.now column)) (sym c.in-Key.is)

pub returns-in_ok-insert-in-Expr : goal.returns-in_ok-insert-in-Expr
returns-in_ok-insert-in-Expr c = λ column.
    name_inserted c.in-Expr.name c.args.at c.args.self.now.keys c.args.self.now.names c.insert-in-Expr.new.self c.in_ok-insert-in-Expr.ensures.updates.0 column
    ∙ ap (λ s. cond (same_column s column) (Some c.args.at) (found c.args.self.now column)) (sym c.in-Expr.is)
