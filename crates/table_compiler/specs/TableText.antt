-- Tables as they are written.
use Rattle.std.specs.Prelude.{ℕ, ◌+◌, Bool, true, false, Option, Some, None, List, [], ◌∷◌, ◌++◌}
use Rattle.std.specs.Prelude.{codes, slice_get}
use Rattle.std.specs.Fmt.{decimal}
use Rattle.std.specs.List.{flat_map}
use Rattle.interval_sets.specs.declared.interval.Bound.{Bound}
use Rattle.interval_sets.specs.declared.interval.Bound.TheVariants as end
use Rattle.interval_sets.specs.declared.interval.Interval.{Interval}
use Rattle.key_words.specs.KeyTexts.{key_text, name_text}
use Rattle.num_text.specs.Values.{written_value}
use Rattle.object_index.specs.Objects.{Objects}
use Rattle.rule_types.specs.declared.action.Branch.{Branch}
use Rattle.rule_types.specs.declared.action.Branch.TheVariants.{Then, Otherwise}
use Rattle.rule_types.specs.declared.condition.Side.{Side}
use Rattle.rule_types.specs.declared.condition.Side.TheVariants as side
use Rattle.rule_types.specs.declared.names.NameDef.{NameDef}
use Rattle.rule_types.specs.declared.object.Space.TheVariants.{Links}
use Rattle.rule_types.specs.declared.rules.Rules.{Rules}
use Rattle.table_compiler.specs.declared.part.Part.{Part}
use Rattle.table_compiler.specs.declared.part.Part.TheVariants.{Column, Number}
use Rattle.table_compiler.specs.declared.table.Clause.{Clause}
use Rattle.table_compiler.specs.declared.table.TableRow.{TableRow}
use Rattle.table_compiler.specs.declared.table.LinkTable.{LinkTable}

-- the end of a line
abbrev pub line_end : List ℕ
line_end = 10 ∷ []

-- texts in a row, with one between each two
abbrev pub joined : {A : Type 0} → List ℕ → (A → List ℕ) → List A → List ℕ
joined between text [] = []
joined between text (first ∷ more) = text first ++ flat_map (λ next. between ++ text next) more

-- ---- sets: the pieces joined by blanks, each with its ends: a square bracket where the end is in
-- the piece, a round one where it is left out, and `-inf` or `+inf` where there is none
abbrev pub low_text : Bound → List ℕ
low_text end.NoBound = codes "(-inf"
low_text (end.Bound q true) = codes "(" ++ written_value q
low_text (end.Bound q false) = codes "[" ++ written_value q

abbrev pub high_text : Bound → List ℕ
high_text end.NoBound = codes "+inf)"
high_text (end.Bound q true) = written_value q ++ codes ")"
high_text (end.Bound q false) = written_value q ++ codes "]"

abbrev pub piece_text : Interval → List ℕ
piece_text piece = low_text piece.low ++ codes "," ++ high_text piece.high

abbrev pub set_text : List Interval → List ℕ
set_text pieces = joined (codes " ") piece_text pieces

-- ---- columns: a key, or `EXPRESSION name`
abbrev pub name_of : Option NameDef → List ℕ
name_of None = []
name_of (Some named) = named.name

abbrev pub column_text : Rules → Objects → Side → List ℕ
column_text x objects (side.Key key) = key_text objects key
column_text x objects (side.Expr name) = codes "EXPRESSION " ++ name_of (slice_get x.names name)

-- ---- parts: a column and its set, or `cond K`, where K counts the rule's conditions from 1
abbrev pub part_text : Rules → Objects → Part → List ℕ
part_text x objects (Column column set) =
    column_text x objects column ++ codes " " ++ set_text set
part_text x objects (Number place) = codes "cond " ++ decimal (place + 1)

-- ---- clauses: a line `clause` with the parts joined by ` | `
unfoldable pub clause_text : Rules → Objects → Clause → List ℕ
clause_text x objects clause =
    codes "clause " ++ joined (codes " | ") (part_text x objects) clause.parts ++ line_end

-- ---- rows: a line `row RULE BRANCH ACTION WORD`, where rules and the actions of a branch are
-- counted from 1, and a line for each clause
abbrev pub branch_word : Branch → List ℕ
branch_word Then = codes " then "
branch_word Otherwise = codes " else "

abbrev pub row_word : Bool → List ℕ
row_word false = codes " when" ++ line_end
row_word true = codes " unless" ++ line_end

unfoldable pub row_line : TableRow → List ℕ
row_line row =
    codes "row " ++ decimal (row.action.rule + 1) ++ branch_word row.action.branch
    ++ decimal (row.action.action + 1) ++ row_word row.negated

abbrev pub row_text : Rules → Objects → TableRow → List ℕ
row_text x objects row = row_line row ++ flat_map (clause_text x objects) row.clauses

-- ---- tables: a line `link NAME` and the rows
unfoldable pub link_text : Rules → Objects → LinkTable → List ℕ
link_text x objects table =
    codes "link " ++ name_text objects (record { space = Links; index = table.link }) ++ line_end
    ++ flat_map (row_text x objects) table.rows

-- the whole text
unfoldable pub table_text : Rules → Objects → List LinkTable → List ℕ
table_text x objects tables =
    codes "tables 1" ++ line_end ++ flat_map (link_text x objects) tables ++ codes "end" ++ line_end
