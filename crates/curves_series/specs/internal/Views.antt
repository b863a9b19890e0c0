-- What the parts of the reader stand for in the words of the definitions.
use Rattle.std.specs.Prelude.{◌≡◌, ℕ, Option, None, Some, Result, Ok, Err, List, [], ◌∷◌, ◌++◌}
use Rattle.std.specs.Prelude.{Bool, false, ◌==◌, ◌<◌, All, map, length, drop, get_or, option_map}
use Rattle.std.specs.Prelude.{IfOk, IfSome}
use Rattle.std.specs.Borrow.{Bor}
use Rattle.std.specs.Global.{Vec}
use Rattle.exact_fraction.specs.Number.{Rational}
use Rattle.inp_text.specs.declared.source_line.SourceLine.{SourceLine}
use Rattle.rule_types.specs.Refusals.{earlier}
use Rattle.rule_types.specs.declared.refusal.Refusal.{Refusal}
use Rattle.rule_types.specs.declared.table.Point.{Point}
use Rattle.curves_series.specs.Pairs.{Pair, LineRead}
use Rattle.curves_series.specs.Groups.{Group}
use Rattle.curves_series.specs.Series.{Entries, with_entry, entry_pair, entries_of, SeriesLine}
use Rattle.curves_series.specs.Series.{SeriesRead}
use Rattle.curves_series.specs.declared.axis.Axis.{Axis}
use Rattle.curves_series.specs.declared.pair.PairRead.{PairRead}
use Rattle.curves_series.specs.declared.pair.BadLine.{BadLine}
use Rattle.curves_series.specs.declared.entry.EntryCut.{EntryCut}
use Rattle.curves_series.specs.declared.entry.EntriesRead.{EntriesRead}
use Rattle.curves_series.specs.declared.series.SeriesSoFar.{SeriesSoFar}
use Rattle.curves_series.specs.declared.groups.Groups.{Groups}
use Rattle.curves_series.specs.Reading.{TableRead, held_of, refusal_of}

-- a pair that was read
abbrev pub pair_now : PairRead → Pair
pair_now pair = record {
  x_item = pair.x_item.now;
  x = pair.x;
  y_item = pair.y_item.now;
  y = pair.y;
}

-- the texts of items
abbrev pub texts : List (Bor (List ℕ)) → List (List ℕ)
texts found = map (λ item. item.now) found

-- the refusal of a line
abbrev pub bad_now : BadLine → Refusal
bad_now bad = record { line = bad.number; cause = bad.cause; token = bad.name.now }

-- the lines that references lead to
abbrev pub lines_now : List (Bor SourceLine) → List SourceLine
lines_now lines = map (λ line. line.now) lines

-- names with their lines
abbrev pub zipped : List (List ℕ) → List (List SourceLine) → List Group
zipped [] lists = []
zipped (name ∷ names) [] = []
zipped (name ∷ names) (lines ∷ lists) = record { name = name; lines = lines } ∷ zipped names lists

abbrev pub groups_now : Groups → List Group
groups_now groups =
    zipped groups.names (map (λ table. lines_now table.lines.items) groups.tables.items)

-- the table at a place
abbrev pub group_at : Groups → ℕ → Group
group_at groups k = get_or (groups_now groups) k (record { name = []; lines = [] })

-- there are as many lists of lines as names
abbrev pub IsEven : Groups → Type 0
IsEven groups = length groups.names ≡ length groups.tables.items

-- points with those of a line behind them
abbrev pub extended : List Point → Result LineRead Refusal → Result LineRead Refusal
extended points (Ok read) = Ok (record { points = points ++ read.points; last = read.last })
extended points (Err refusal) = Err refusal

-- one more line was taken: `due` is what it gives, and the refusal or the points then are its
abbrev pub TakesLine : Result LineRead Refusal → Option Refusal → List Point → List Point
    → Option Rational → Type 0
TakesLine due (Some refusal) old new last = due ≡ Err refusal
TakesLine due None old new last = extended old due ≡ Ok (record { points = new; last = last })

-- what the lines of a table give
abbrev pub LinesRead : Result (List Point) Refusal → Result (Vec Point) Refusal → Type 0
LinesRead due (Ok points) = due ≡ Ok points.items
LinesRead due (Err refusal) = due ≡ Err refusal

-- the entries of items of which the first entry was cut
abbrev pub after_cut : List (List ℕ) → Option EntryCut → Option Entries
after_cut found None = None
after_cut found (Some cut) =
    with_entry (entry_pair cut.axis cut.time.now cut.value.now)
    (entries_of cut.axis (drop cut.taken found))

-- the entries of a line
abbrev pub entries_now : EntriesRead → Entries
entries_now read = record { pairs = map pair_now read.pairs.items; axis = read.axis }

-- entries with these pairs in front
abbrev pub entries_after : List Pair → Option Entries → Option Entries
entries_after done later =
    option_map (λ entries. record { pairs = done ++ entries.pairs; axis = entries.axis }) later

-- points with those of a line of a series behind them
abbrev pub extended_series : List Point → Result SeriesLine Refusal → Result SeriesLine Refusal
extended_series points (Ok found) = Ok (record {
  read = record { points = points ++ found.read.points; last = found.read.last };
  axis = found.axis;
})
extended_series points (Err refusal) = Err refusal

-- one more line of a series was taken, and the points, the last x and the axis then are these
abbrev pub TakesSeries : Result SeriesLine Refusal → Option Refusal → List Point → List Point
    → Option Rational → Axis → Type 0
TakesSeries due (Some refusal) old new last axis = due ≡ Err refusal
TakesSeries due None old new last axis =
    extended_series old due
    ≡ Ok (record { read = record { points = new; last = last }; axis = axis })

-- what the lines of a series give
abbrev pub SeriesLinesRead : Result SeriesRead Refusal → Result SeriesSoFar Refusal → Type 0
SeriesLinesRead due (Ok series) =
    due ≡ Ok (record { points = series.so_far.points.items; axis = series.axis })
SeriesLinesRead due (Err refusal) = due ≡ Err refusal

-- a table's number is this one
abbrev pub is_number : ℕ → Option ℕ → Bool
is_number k None = false
is_number k (Some number) = k == number

-- what was read of one more table is held and its refusal compared, and a table that was read has
-- the property
pub record Adds {A : Type 0} (old : List (Option A)) (before : Option Refusal)
    (new : List (Option A)) (after : Option Refusal) (read : TableRead A) (P : A → Type 0) : Type 0
  where
    pub held : new ≡ old ++ held_of read ∷ []
    pub refusal : after ≡ earlier before (refusal_of read)
    pub points : IfOk read (λ table. IfSome table P)

-- each table has a line
abbrev pub HaveLines : List Group → Type 0
HaveLines groups = All (λ group. 0 < length group.lines) groups
