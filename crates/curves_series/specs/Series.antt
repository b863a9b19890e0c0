-- Time series as their lines give them (SWMM 5.2 manual, [TIMESERIES]).
use Rattle.std.specs.Prelude.{ℕ, Bool, true, false, Option, None, Some}
use Rattle.std.specs.Prelude.{Result, Ok, Err, List, [], ◌∷◌, ◌++◌, option_map, codes}
use Rattle.std.specs.Prelude.{ℤ, pos, neg_ℤ, ◌*ℤ◌, ◌≤ℤ◌, ⊤}
use Rattle.std.specs.List.{list_any}
use Rattle.std.specs.Str.{str_eq_ignore_ascii_case}
use Rattle.exact_fraction.specs.Number.{Rational, whole}
use Rattle.exact_fraction.specs.Operations.{sum_of}
use Rattle.inp_text.specs.Items.{items}
use Rattle.inp_text.specs.declared.source_line.SourceLine.{SourceLine}
use Rattle.num_text.specs.Dates.{date_of}
use Rattle.num_text.specs.Numbers.{number_of}
use Rattle.num_text.specs.Times.{time_of}
use Rattle.num_text.specs.declared.error.NumberFault.{NumberFault}
use Rattle.num_text.specs.declared.error.NumberFault.TheVariants.{BadNumber}
use Rattle.rule_types.specs.Tables.{SeriesTable}
use Rattle.rule_types.specs.declared.refusal.Cause.TheVariants.{BadSeries}
use Rattle.rule_types.specs.declared.refusal.Refusal.{Refusal}
use Rattle.rule_types.specs.declared.table.Point.{Point}
use Rattle.curves_series.specs.Pairs.{Pair, LineRead, pairs_read}
use Rattle.curves_series.specs.Groups.{Group}
use Rattle.curves_series.specs.declared.axis.Axis.{Axis}
use Rattle.curves_series.specs.declared.axis.Axis.TheVariants.{Open, Hours, Days}

-- a line of a series has the word FILE as its second item, in any case (SWMM 5.2 manual,
-- [TIMESERIES])
abbrev pub is_file_word : List (List ℕ) → Bool
is_file_word [] = false
is_file_word (name ∷ []) = false
is_file_word (name ∷ item ∷ later) = str_eq_ignore_ascii_case item (codes "FILE")

abbrev pub names_file : SourceLine → Bool
names_file line = is_file_word (items line.bytes)

-- a file series: one of its lines names a file
abbrev pub is_file_series : Group → Bool
is_file_series group = list_any names_file group.lines

-- the axis of a series at an entry with or without a date of its own; none where a date may not
-- stand: a date in a series whose first entry has none. A date holds until the next one.
abbrev pub axis_at : Axis → Option ℤ → Option Axis
axis_at Open None = Some Hours
axis_at Open (Some day) = Some (Days day)
axis_at Hours None = Some Hours
axis_at Hours (Some day) = None
axis_at (Days before) None = Some (Days before)
axis_at (Days before) (Some day) = Some (Days day)

-- what is read of the item of a time: hours, or why there are none; a number that is too large is
-- too large here too
abbrev pub fault_of : Result Rational NumberFault → NumberFault
fault_of (Ok q) = BadNumber
fault_of (Err fault) = fault

abbrev pub time_or : Option Rational → Result Rational NumberFault → Result Rational NumberFault
time_or (Some hours) number = Ok hours
time_or None number = Err (fault_of number)

abbrev pub time_read : List ℕ → Result Rational NumberFault
time_read item = time_or (time_of item) (number_of item)

-- the hours of a time of a day, counted from 1970-01-01
unfoldable pub hours_of_day : ℤ → Rational → Rational
hours_of_day day hours = sum_of (whole (pos 24 *ℤ day)) hours

-- the x of a time on an axis
abbrev pub x_on : Axis → Result Rational NumberFault → Result Rational NumberFault
x_on (Days day) (Ok hours) = Ok (hours_of_day day hours)
x_on (Days day) (Err fault) = Err fault
x_on Hours time = time
x_on Open time = time

-- a time and a value on an axis as a pair
abbrev pub entry_pair : Axis → List ℕ → List ℕ → Pair
entry_pair axis time value = record {
  x_item = time;
  x = x_on axis (time_read time);
  y_item = value;
  y = number_of value;
}

-- the entries of a line as pairs, and the axis after them
pub record Entries : Type 0 where
  pub pairs : List Pair
  pub axis : Axis

-- entries with one more in front
abbrev pub with_entry : Pair → Option Entries → Option Entries
with_entry pair later =
    option_map (λ entries. record { pairs = pair ∷ entries.pairs; axis = entries.axis }) later

-- an entry of a time and a value on its axis, if it has one, and the entries behind it
abbrev pub entry_then : Option Axis → List ℕ → List ℕ → (Axis → Option Entries) → Option Entries
entry_then None time value later = None
entry_then (Some axis) time value later =
    with_entry (entry_pair axis time value) (later axis)

-- the last entry of a line, of two items: a time and a value
abbrev pub two_items : Axis → Option ℤ → List ℕ → List ℕ → Option Entries
two_items axis (Some day) first second = None
two_items axis None first second =
    entry_then (axis_at axis None) first second
    (λ after. Some (record { pairs = []; axis = after }))

-- an entry at the head of three items or more: a date, a time and a value, or a time and a value
abbrev pub three_items : Axis → Option ℤ → List ℕ → List ℕ → List ℕ
    → (Axis → Option Entries) → (Axis → Option Entries) → Option Entries
three_items axis (Some day) first second third behind_two behind_three =
    entry_then (axis_at axis (Some day)) second third behind_three
three_items axis None first second third behind_two behind_three =
    entry_then (axis_at axis None) first second behind_two

-- items as whole entries `Date Time Value` or `Time Value`; none where they are not so many
unfoldable pub entries_of : Axis → List (List ℕ) → Option Entries
entries_of axis [] = Some (record { pairs = []; axis = axis })
entries_of axis (a ∷ []) = None
entries_of axis (a ∷ b ∷ []) = two_items axis (date_of a) a b
entries_of axis (a ∷ b ∷ c ∷ later) =
    three_items axis (date_of a) a b c
    (λ after. entries_of after (c ∷ later)) (λ after. entries_of after later)

-- the refusal of a line of a series
abbrev pub bad_series : List ℕ → SourceLine → Refusal
bad_series name line = record { line = line.number; cause = BadSeries; token = name }

-- what a line of a series gives, and the axis after it
pub record SeriesLine : Type 0 where
  pub read : LineRead
  pub axis : Axis

abbrev pub on_axis : Axis → Result LineRead Refusal → Result SeriesLine Refusal
on_axis axis (Ok read) = Ok (record { read = read; axis = axis })
on_axis axis (Err refusal) = Err refusal

abbrev pub entries_or : Refusal → Option Rational → Option Entries → Result SeriesLine Refusal
entries_or bad before None = Err bad
entries_or bad before (Some entries) =
    on_axis entries.axis (pairs_read bad before entries.pairs)

-- the items behind the name, of which there is one or more, as entries
abbrev pub behind_name : Axis → List (List ℕ) → Option Entries
behind_name axis [] = None
behind_name axis (name ∷ []) = None
behind_name axis (name ∷ item ∷ later) = entries_of axis (item ∷ later)

-- what the items of a line of a series give on the axis of the lines before, behind their last x
unfoldable pub series_items : Refusal → Axis → Option Rational → List (List ℕ)
    → Result SeriesLine Refusal
series_items bad axis before found = entries_or bad before (behind_name axis found)

unfoldable pub series_line : List ℕ → Axis → Option Rational → SourceLine
    → Result SeriesLine Refusal
series_line name axis before line =
    series_items (bad_series name line) axis before (items line.bytes)

-- the points of lines of a series, and their axis
pub record SeriesRead : Type 0 where
  pub points : List Point
  pub axis : Axis

abbrev pub points_before : List Point → Result SeriesRead Refusal → Result SeriesRead Refusal
points_before points (Ok later) =
    Ok (record { points = points ++ later.points; axis = later.axis })
points_before points (Err refusal) = Err refusal

abbrev pub then_series : Result SeriesLine Refusal
    → (Axis → Option Rational → Result SeriesRead Refusal) → Result SeriesRead Refusal
then_series (Ok found) later =
    points_before found.read.points (later found.axis found.read.last)
then_series (Err refusal) later = Err refusal

-- the points of the lines of a series, or the first refusal
unfoldable pub series_lines : List ℕ → Axis → Option Rational → List SourceLine
    → Result SeriesRead Refusal
series_lines name axis before [] = Ok (record { points = []; axis = axis })
series_lines name axis before (line ∷ later) =
    then_series (series_line name axis before line)
    (λ after last. series_lines name after last later)

-- a series is dated where its entries have dates
abbrev pub is_dated : Axis → Bool
is_dated Open = false
is_dated Hours = false
is_dated (Days day) = true

abbrev pub series_with : List ℕ → Result SeriesRead Refusal → Result SeriesTable Refusal
series_with name (Ok read) =
    Ok (record { name = name; dated = is_dated read.axis; points = read.points })
series_with name (Err refusal) = Err refusal

-- The series of its lines, which is no file series, or the first refusal on one of them.
unfoldable pub series_of : Group → Result SeriesTable Refusal
series_of group = series_with group.name (series_lines group.name Open None group.lines)

-- a day number that a date can have
abbrev pub IsDay : ℤ → Type 0
IsDay day = (neg_ℤ (pos 719_162) ≤ℤ day) × (day ≤ℤ pos 2_932_896)

-- the date in force, if there is one, is that of a day
abbrev pub IsAxis : Axis → Type 0
IsAxis Open = ⊤
IsAxis Hours = ⊤
IsAxis (Days day) = IsDay day
