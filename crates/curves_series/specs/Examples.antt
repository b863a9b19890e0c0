-- Lines of tables, and points, for worked examples.
use Rattle.std.specs.Prelude.{ℕ, Bool, Option, Some, Result, Ok, Err, List, [], ◌∷◌}
use Rattle.std.specs.Prelude.{codes, pos, negsuc}
use Rattle.exact_fraction.specs.Number.{Rational, whole}
use Rattle.inp_text.specs.declared.source_line.SourceLine.{SourceLine}
use Rattle.rule_types.specs.Tables.{CurveTable, SeriesTable, TableSet}
use Rattle.rule_types.specs.declared.refusal.Cause.{Cause}
use Rattle.rule_types.specs.declared.refusal.Refusal.{Refusal}
use Rattle.rule_types.specs.declared.table.Point.{Point}
use Rattle.curves_series.specs.Reading.{tables_in}

-- a line of an input file
abbrev pub line : ℕ → List ℕ → SourceLine
line number text = record { number = number; bytes = text }

-- the fractions n and n / (below + 1)
abbrev pub natural : ℕ → Rational
natural n = whole (pos n)

abbrev pub over : ℕ → ℕ → Rational
over n below = record { num = pos n; below = below }

abbrev pub point : Rational → Rational → Point
point x y = record { x = x; y = y }

-- a control line that sets a link by a curve, and one by a series
abbrev pub by_curve : SourceLine
by_curve = line 3 (codes "THEN ORIFICE O1 SETTING = CURVE C1")

abbrev pub by_series : SourceLine
by_series = line 3 (codes "THEN ORIFICE O1 SETTING = TIMESERIES T1")

-- what is read where these are the lines of curves, and the curve above is used
abbrev pub with_curves : List SourceLine → Result TableSet Refusal
with_curves lines = tables_in (by_curve ∷ []) lines []

-- what is read where these are the lines of series, and the series above is used
abbrev pub with_series : List SourceLine → Result TableSet Refusal
with_series lines = tables_in (by_series ∷ []) [] lines

-- a curve and a series
abbrev pub curve : List ℕ → List Point → Option CurveTable
curve name points = Some (record { name = name; points = points })

abbrev pub series : List ℕ → Bool → List Point → Option SeriesTable
series name dated points = Some (record { name = name; dated = dated; points = points })

-- these curves alone, and these series alone
abbrev pub curves_alone : List (Option CurveTable) → Result TableSet Refusal
curves_alone curves = Ok (record { curves = curves; series = [] })

abbrev pub series_alone : List (Option SeriesTable) → Result TableSet Refusal
series_alone found = Ok (record { curves = []; series = found })

-- a refusal
abbrev pub refused : ℕ → Cause → List ℕ → Result TableSet Refusal
refused number cause token = Err (record { line = number; cause = cause; token = token })

-- from (0, 0) to (3, 1)
abbrev pub rising : List Point
rising = point (natural 0) (natural 0) ∷ point (natural 3) (natural 1) ∷ []

-- from (0, 2) over (2, 1) and (4, 1) to (5, -1)
abbrev pub falling : List Point
falling =
    point (natural 0) (natural 2) ∷ point (natural 2) (natural 1) ∷ point (natural 4) (natural 1)
    ∷ point (natural 5) (whole (negsuc 0)) ∷ []

-- from (0, -1) to (1, 2^63 - 1), whose rise does not fit
abbrev pub steep : List Point
steep =
    point (natural 0) (whole (negsuc 0))
    ∷ point (natural 1) (natural 9223372036854775807) ∷ []
