-- The tables of a section: the names of its lines, and the lines of each name.
use Rattle.std.specs.Prelude.{ℕ, if◌then◌else◌, List, [], ◌∷◌, ◌++◌, map}
use Rattle.std.specs.Str.{bytes_eq}
use Rattle.inp_text.specs.Headings.{first_item}
use Rattle.inp_text.specs.declared.source_line.SourceLine.{SourceLine}

-- the name of the table that a line belongs to: its first item (SWMM 5.2 manual, [CURVES] and
-- [TIMESERIES])
abbrev pub name_of : SourceLine → List ℕ
name_of line = first_item line.bytes

-- the lines of one table, in the order of the file
pub record Group : Type 0 where
  pub name : List ℕ
  pub lines : List SourceLine

-- the tables with one more line: at the end of its table, or as a new table at the end
unfoldable pub with_line : SourceLine → List Group → List Group
with_line line [] = record { name = name_of line; lines = line ∷ [] } ∷ []
with_line line (group ∷ later) =
    if bytes_eq (name_of line) group.name
    then record { name = group.name; lines = group.lines ++ line ∷ [] } ∷ later
    else group ∷ with_line line later

-- the tables with more lines
unfoldable pub with_lines : List Group → List SourceLine → List Group
with_lines groups [] = groups
with_lines groups (line ∷ later) = with_lines (with_line line groups) later

-- The tables of a section with these lines, in the order of their first lines: a table's lines are
-- those whose first items are the same bytes, wherever they stand in the section.
abbrev pub groups_of : List SourceLine → List Group
groups_of lines = with_lines [] lines

-- the names of tables, in their order
abbrev pub names_of : List Group → List (List ℕ)
names_of groups = map (λ group. group.name) groups
