-- The ends of the sets of tables, each with its column.
use Rattle.std.specs.Prelude.{List, [], ◌∷◌}
use Rattle.std.specs.List.{flat_map}
use Rattle.interval_sets.specs.declared.interval.Interval.{Interval}
use Rattle.rule_types.specs.declared.condition.Side.{Side}
use Rattle.table_compiler.specs.declared.part.Part.{Part}
use Rattle.table_compiler.specs.declared.part.Part.TheVariants.{Column, Number}
use Rattle.table_compiler.specs.declared.table.Clause.{Clause}
use Rattle.table_compiler.specs.declared.table.TableRow.{TableRow}
use Rattle.table_compiler.specs.declared.table.LinkTable.{LinkTable}
use Rattle.table_plan.specs.declared.column_ends.ColumnEnd.{ColumnEnd}

-- both ends of an interval of a column's set
abbrev pub interval_ends : Side → Interval → List ColumnEnd
interval_ends column interval =
    record { side = column; bound = interval.low } ∷ record { side = column; bound = interval.high }
    ∷ []

unfoldable pub part_ends : Part → List ColumnEnd
part_ends (Column column set) = flat_map (interval_ends column) set
part_ends (Number place) = []

unfoldable pub clause_ends : Clause → List ColumnEnd
clause_ends clause = flat_map part_ends clause.parts

unfoldable pub row_ends : TableRow → List ColumnEnd
row_ends row = flat_map clause_ends row.clauses

unfoldable pub table_ends : LinkTable → List ColumnEnd
table_ends table = flat_map row_ends table.rows
