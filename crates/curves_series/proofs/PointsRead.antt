-- What is held of tables has points that a table can have.
use Rattle.std.proofs.Common.{◌≡◌, ℕ, zero, suc, ◌<◌, Bool, true, false, Option, Some, None, Result, Ok, Err, List, [], ◌∷◌, length, refl, arith}
use Rattle.std.specs.Prelude.{All, IfSome, IfOk, if◌then◌else◌, not, ◌&&◌}
use Rattle.inp_text.specs.declared.source_line.SourceLine.{SourceLine}
use Rattle.rule_types.specs.Tables.{TableSet, IsPointList}
use Rattle.rule_types.specs.declared.refusal.Refusal.{Refusal}
use Rattle.rule_types.specs.declared.table.Point.{Point}
use Rattle.curves_series.specs.Groups.{Group, groups_of, names_of}
use Rattle.curves_series.specs.Curves.{curve_lines, curve_with, curve_of, has_point}
use Rattle.curves_series.specs.Series.{SeriesRead, series_lines, series_with, series_of, is_file_series}
use Rattle.curves_series.specs.Names.{curve_word, series_word, is_used}
use Rattle.curves_series.specs.Reading.{TableRead, held_of, held_from, some_read, curve_read, series_read, held_tables, unless_refused, tables_in, HavePoints}
use Rattle.curves_series.specs.declared.axis.Axis.TheVariants.{Open}
use Rattle.curves_series.specs.internal.Views.{HaveLines}
use Rattle.curves_series.proofs.HeldTables.{lines_some}
use Rattle.curves_series.proofs.Pointed.{curve_fits, series_fits}

curve_by : (name : List ℕ) (read : Result (List Point) Refusal) → ((points : List Point) → read ≡ Ok points → IsPointList points) → IfSome (held_of (some_read (curve_with name read))) (λ table. IsPointList table.points)
curve_by name (Ok points) fit = fit points refl
curve_by name (Err refusal) fit = tt

curve_held : (group : Group) → 0 < length group.lines → IfSome (held_of (some_read (curve_of group))) (λ table. IsPointList table.points)
unfolding curve_of
curve_held group some =
    curve_by group.name (curve_lines group.name true (has_point true group.lines) None group.lines) (λ points is. curve_fits group points some is)

series_by : (name : List ℕ) (read : Result SeriesRead Refusal) → ((found : SeriesRead) → read ≡ Ok found → IsPointList found.points) → IfSome (held_of (some_read (series_with name read))) (λ table. IsPointList table.points)
series_by name (Ok found) fit = fit found refl
series_by name (Err refusal) fit = tt

series_held : (group : Group) → 0 < length group.lines → IfSome (held_of (some_read (series_of group))) (λ table. IsPointList table.points)
unfolding series_of
series_held group some =
    series_by group.name (series_lines group.name Open None group.lines) (λ found is. series_fits group.name group.lines found some is)

where_read : {A : Type 0} (P : A → Type 0) (used : Bool) (read : TableRead A) → IfSome (held_of read) P → IfSome (held_of (if used then read else Ok None)) P
where_read P true read h = h
where_read P false read h = tt

all_held : {A : Type 0} (P : A → Type 0) (read : ℕ → Group → TableRead A) (number : ℕ) (groups : List Group) → ((k : ℕ) (group : Group) → 0 < length group.lines → IfSome (held_of (read k group)) P) → HaveLines groups → All (λ table. IfSome table P) (held_from read number groups)
unfolding held_from
all_held P read number [] each full k d lt = absurd (omega (arith, lt))
all_held P read number (group ∷ later) each full zero d lt = each number group (full 0 group (omega arith))
all_held P read number (group ∷ later) each full (suc k) d lt =
    all_held P read (suc number) later each (λ j e within. full (suc j) e (omega (arith, within))) k d (omega (arith, lt))

held_points : (controls curves series : List SourceLine) → HavePoints (held_tables controls (groups_of curves) (groups_of series))
held_points controls curves series = record {
  curves = all_held (λ table. IsPointList table.points) (curve_read controls (groups_of curves)) 0 (groups_of curves) (λ k group some. where_read (λ table. IsPointList table.points) (is_used curve_word controls (names_of (groups_of curves)) k) (some_read (curve_of group)) (curve_held group some)) (lines_some curves);
  series = all_held (λ table. IsPointList table.points) (series_read controls (groups_of series)) 0 (groups_of series) (λ k group some. where_read (λ table. IsPointList table.points) (is_used series_word controls (names_of (groups_of series)) k && not (is_file_series group)) (some_read (series_of group)) (series_held group some)) (lines_some series);
}

unless_by : (refusal : Option Refusal) (tables : TableSet) → HavePoints tables → IfOk (unless_refused refusal tables) HavePoints
unless_by None tables h = h
unless_by (Some refusal) tables h = tt

pub read_points : (controls curves series : List SourceLine) → IfOk (tables_in controls curves series) HavePoints
unfolding tables_in
read_points controls curves series = unless_by _ (held_tables controls (groups_of curves) (groups_of series)) (held_points controls curves series)
