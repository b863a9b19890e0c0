-- The tables that control lines name: which of them are used, and what a name finds.
use Rattle.std.specs.Prelude.{◌≡◌, ⊤, ℕ, Bool, true, false, ◌&&◌, ◌==◌, ◌-◌, if◌then◌else◌}
use Rattle.std.specs.Prelude.{Option, None, Some, Result, Ok, Err, List, [], ◌∷◌}
use Rattle.std.specs.Prelude.{codes, drop, length, map, slice_get}
use Rattle.std.specs.List.{list_any}
use Rattle.std.specs.Str.{bytes_eq, str_eq_ignore_ascii_case}
use Rattle.inp_text.specs.Items.{items}
use Rattle.inp_text.specs.declared.source_line.SourceLine.{SourceLine}
use Rattle.rule_types.specs.Finding.{Found, Nothing, At, Several, finds}
use Rattle.rule_types.specs.declared.action.CurveNo.{CurveNo}
use Rattle.rule_types.specs.declared.action.SeriesNo.{SeriesNo}
use Rattle.curves_series.specs.Groups.{groups_of, names_of}
use Rattle.curves_series.specs.Series.{is_file_series}
use Rattle.curves_series.specs.declared.fault.TableFault.{TableFault}
use Rattle.curves_series.specs.declared.fault.TableFault.TheVariants.{Unknown, FileSeries}
use Rattle.curves_series.specs.declared.fault.TableFault.TheVariants.{NoMemory}

-- the words before the name of a curve and of a series in a control line (SWMM 5.2 manual,
-- modulated controls)
abbrev pub curve_word : List ℕ
curve_word = codes "CURVE"

abbrev pub series_word : List ℕ
series_word = codes "TIMESERIES"

-- an equals sign and a word, in any case
abbrev pub sets_by : List ℕ → List ℕ → List ℕ → Bool
sets_by word equals item = bytes_eq equals (codes "=") && str_eq_ignore_ascii_case item word

-- the name behind an equals sign and a word, where three items are these
abbrev pub name_behind : List ℕ → List (List ℕ) → Option (List ℕ)
name_behind word [] = None
name_behind word (equals ∷ []) = None
name_behind word (equals ∷ item ∷ []) = None
name_behind word (equals ∷ item ∷ name ∷ []) =
    if sets_by word equals item then Some name else None
name_behind word (equals ∷ item ∷ name ∷ next ∷ later) = None

-- the name of the table that a control line uses: its last three items are an equals sign, the word
-- and the name
unfoldable pub name_used : List ℕ → List (List ℕ) → Option (List ℕ)
name_used word found = name_behind word (drop (length found - 3) found)

-- a find is of the table at a place
abbrev pub is_at : ℕ → Found → Bool
is_at place Nothing = false
is_at place (At number) = place == number
is_at place Several = false

abbrev pub finds_at : List (List ℕ) → ℕ → Option (List ℕ) → Bool
finds_at names place None = false
finds_at names place (Some name) = is_at place (finds names name)

-- a control line uses the table at a place among these names
abbrev pub line_uses : List ℕ → List (List ℕ) → ℕ → SourceLine → Bool
line_uses word names place line = finds_at names place (name_used word (items line.bytes))

-- the table at a place is used: some control line ends with its word and a name that finds it
unfoldable pub is_used : List ℕ → List SourceLine → List (List ℕ) → ℕ → Bool
is_used word controls names place = list_any (line_uses word names place) controls

-- the names of the tables of an input file, and which of its series are file series
pub record NamedTables : Type 0 where
  pub curves : List (List ℕ)
  pub series : List (List ℕ)
  pub file_series : List Bool

-- those of tables with these lines, in the order of their first lines
abbrev pub named_tables : List SourceLine → List SourceLine → NamedTables
named_tables curves series = record {
  curves = names_of (groups_of curves);
  series = names_of (groups_of series);
  file_series = map is_file_series (groups_of series);
}

-- the curve that a find is of
abbrev pub curve_found : Found → Result CurveNo TableFault
curve_found Nothing = Err Unknown
curve_found (At number) = Ok (record { index = number })
curve_found Several = Err Unknown

-- The curve that a name finds: the one with the same bytes, and failing that the only one that is
-- equal when case is ignored.
abbrev pub curve_named : NamedTables → List ℕ → Result CurveNo TableFault
curve_named tables name = curve_found (finds tables.curves name)

-- the series of a number, if it is no file series
abbrev pub series_numbered : ℕ → Option Bool → Result SeriesNo TableFault
series_numbered number None = Ok (record { index = number })
series_numbered number (Some true) = Err FileSeries
series_numbered number (Some false) = Ok (record { index = number })

-- the series that a find is of
abbrev pub series_found : List Bool → Found → Result SeriesNo TableFault
series_found file_series Nothing = Err Unknown
series_found file_series (At number) = series_numbered number (slice_get file_series number)
series_found file_series Several = Err Unknown

-- The series that a name finds, in the same way, if it is no file series.
abbrev pub series_named : NamedTables → List ℕ → Result SeriesNo TableFault
series_named tables name = series_found tables.file_series (finds tables.series name)

-- an answer is the one that is due, unless there is no memory
abbrev pub Finds : {A : Type 0} → Result A TableFault → Result A TableFault → Type 0
Finds due (Ok number) = due ≡ Ok number
Finds due (Err Unknown) = due ≡ Err Unknown
Finds due (Err FileSeries) = due ≡ Err FileSeries
Finds due (Err NoMemory) = ⊤
