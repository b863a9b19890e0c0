-- The used tables of an input file, or the first refusal on their lines.
use Rattle.std.specs.Prelude.{◌≡◌, ⊤, ℕ, suc, not, ◌&&◌, if◌then◌else◌}
use Rattle.std.specs.Prelude.{Option, None, Some, Result, Ok, Err, List, [], ◌∷◌, All, IfSome}
use Rattle.inp_text.specs.declared.source_line.SourceLine.{SourceLine}
use Rattle.rule_types.specs.Refusals.{earlier}
use Rattle.rule_types.specs.Tables.{CurveTable, SeriesTable, TableSet, IsPointList}
use Rattle.rule_types.specs.declared.refusal.ReadFault.{ReadFault}
use Rattle.rule_types.specs.declared.refusal.ReadFault.TheVariants.{Refused, NoMemory}
use Rattle.rule_types.specs.declared.refusal.Refusal.{Refusal}
use Rattle.curves_series.specs.Groups.{Group, groups_of, names_of}
use Rattle.curves_series.specs.Curves.{curve_of}
use Rattle.curves_series.specs.Series.{series_of, is_file_series}
use Rattle.curves_series.specs.Names.{curve_word, series_word, is_used}

-- what is read of one table: the table, nothing where it is not read, or its first refusal
abbrev pub TableRead : Type 0 → Type 0
TableRead A = Result (Option A) Refusal

-- the table that is held, and the refusal
abbrev pub held_of : {A : Type 0} → TableRead A → Option A
held_of (Ok table) = table
held_of (Err refusal) = None

abbrev pub refusal_of : {A : Type 0} → TableRead A → Option Refusal
refusal_of (Ok table) = None
refusal_of (Err refusal) = Some refusal

-- what is held of tables, of which the first has this number
unfoldable pub held_from : {A : Type 0} → (ℕ → Group → TableRead A) → ℕ → List Group
    → List (Option A)
held_from read number [] = []
held_from read number (group ∷ later) =
    held_of (read number group) ∷ held_from read (suc number) later

-- the lowest of their refusals
unfoldable pub refusal_from : {A : Type 0} → (ℕ → Group → TableRead A) → ℕ → List Group
    → Option Refusal
refusal_from read number [] = None
refusal_from read number (group ∷ later) =
    earlier (refusal_of (read number group)) (refusal_from read (suc number) later)

-- a table that is read
abbrev pub some_read : {A : Type 0} → Result A Refusal → TableRead A
some_read (Ok table) = Ok (Some table)
some_read (Err refusal) = Err refusal

-- a curve is read where it is used
abbrev pub curve_read : List SourceLine → List Group → ℕ → Group → TableRead CurveTable
curve_read controls groups number group =
    if is_used curve_word controls (names_of groups) number then some_read (curve_of group)
    else Ok None

-- a series is read where it is used and is no file series
abbrev pub series_read : List SourceLine → List Group → ℕ → Group → TableRead SeriesTable
series_read controls groups number group =
    if is_used series_word controls (names_of groups) number && not (is_file_series group)
    then some_read (series_of group)
    else Ok None

-- the used curves and series of these tables, whatever is refused
abbrev pub held_tables : List SourceLine → List Group → List Group → TableSet
held_tables controls curves series = record {
  curves = held_from (curve_read controls curves) 0 curves;
  series = held_from (series_read controls series) 0 series;
}

-- the lowest refusal on a line of a used table
abbrev pub table_refusal : List SourceLine → List Group → List Group → Option Refusal
table_refusal controls curves series =
    earlier (refusal_from (curve_read controls curves) 0 curves)
    (refusal_from (series_read controls series) 0 series)

abbrev pub unless_refused : Option Refusal → TableSet → Result TableSet Refusal
unless_refused None tables = Ok tables
unless_refused (Some refusal) tables = Err refusal

-- The used tables of an input file whose control lines, curve lines and series lines are these, by
-- their numbers: their places among all tables of their section. Or the lowest refusal on a line of
-- one of them (SWMM 5.2 manual, [CURVES] and [TIMESERIES]).
unfoldable pub tables_in : List SourceLine → List SourceLine → List SourceLine
    → Result TableSet Refusal
tables_in controls curves series =
    unless_refused (table_refusal controls (groups_of curves) (groups_of series))
    (held_tables controls (groups_of curves) (groups_of series))

-- an answer is the one that is due, unless there is no memory
abbrev pub Reads : Result TableSet Refusal → Result TableSet ReadFault → Type 0
Reads due (Ok tables) = due ≡ Ok tables
Reads due (Err (Refused refusal)) = due ≡ Err refusal
Reads due (Err NoMemory) = ⊤

-- the tables that are held have points that a table can have
pub record HavePoints (tables : TableSet) : Type 0 where
  pub curves : All (λ curve. IfSome curve (λ table. IsPointList table.points)) tables.curves
  pub series : All (λ series. IfSome series (λ table. IsPointList table.points)) tables.series
