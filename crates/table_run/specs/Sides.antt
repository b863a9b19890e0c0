-- What tables read, and the rules that they serve.
use Rattle.std.specs.Prelude.{◌≡◌, Bool, IsTrue, List, map, All}
use Rattle.std.specs.List.{list_any}
use Rattle.rule_types.specs.declared.condition.Side.{Side}
use Rattle.rule_types.specs.declared.rules.Rules.{Rules}
use Rattle.table_compiler.specs.declared.part.Part.{Part}
use Rattle.table_compiler.specs.declared.part.Part.TheVariants.{Column, Number}
use Rattle.table_compiler.specs.declared.table.LinkTable.{LinkTable}
use Rattle.table_compiler.specs.declared.table.TableRow.{TableRow}
use Rattle.table_compiler.specs.Parts.{same_column}

-- whether a side stands on the left of a condition of the rules
unfoldable pub is_left_side : Rules → Side → Bool
is_left_side x side =
    list_any (λ rule. list_any (λ c. same_column c.left side) rule.conditions) x.rules

-- the column of a part, where it has one, is such a side
abbrev pub PartReads : Rules → Part → Type 0
PartReads x (Column column set) = IsTrue (is_left_side x column)
PartReads x (Number place) = Unit {0}

abbrev pub RowReads : Rules → TableRow → Type 0
RowReads x row = All (λ clause. All (PartReads x) clause.parts) row.clauses

-- Tables serve rules: there is one for each controlled link, in link order, and each of their
-- columns stands on the left of a condition of the rules.
pub record ServesRules (x : Rules) (tables : List LinkTable) : Type 0 where
  pub links : map (λ table. table.link) tables ≡ x.controlled
  pub columns : All (λ table. All (RowReads x) table.rows) tables
