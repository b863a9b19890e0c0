-- The states and cells of a report.
use Rattle.std.specs.Prelude.{ℕ, suc, Bool, true, false, if◌then◌else◌, ◌&&◌, List, [], ◌∷◌, ◌++◌}
use Rattle.std.specs.Prelude.{codes, Option, None, Some, Ok, Err, ℤ, int_lt}
use Rattle.std.specs.BTreeMap.{insert_entry}
use Rattle.std.specs.Str.{bytes_eq}
use Rattle.exact_fraction.specs.Number.{Rational, zero}
use Rattle.exact_fraction.specs.Order.{less, same}
use Rattle.inp_text.specs.Sections.{Line}
use Rattle.interval_sets.specs.declared.interval.Interval.{Interval}
use Rattle.num_text.specs.Fields.{◌>>=◌}
use Rattle.object_index.specs.Objects.{Objects}
use Rattle.rule_types.specs.KeyOrder.{key_cmp}
use Rattle.rule_types.specs.declared.key.Attr.TheVariants.{Setting, TimeOpen, TimeClosed}
use Rattle.rule_types.specs.declared.key.Key.{Key}
use Rattle.rule_types.specs.declared.key.Key.TheVariants.{Object}
use Rattle.rule_types.specs.declared.rules.Rules.{Rules}
use Rattle.rule_types.specs.declared.state.State.{State}
use Rattle.verdict_meaning.specs.declared.cell.Cell.{Cell}
use Rattle.verdict_meaning.specs.Grids.{sample_with}
use Rattle.report_lines.specs.KeyLines.{past_key, piece_of}
use Rattle.report_lines.specs.declared.grid.Grid.{Grid}
use Rattle.report_lines.specs.Words.{Word, words_of, line_at, value_of, written_moment_of}
use Rattle.report_lines.specs.Words.{Reading, read_to, behind, made_of, one_line}

-- ---- states
abbrev pub value_text : Word
value_text = codes "value"

-- the setting of a link before its timers in key order: that of the last SETTING
abbrev pub setting_after : Key → Rational → Option Rational → Option Rational
setting_after (Object object Setting) q setting = Some q
setting_after key q setting = setting

-- whether a state of this setting has a key: TIMEOPEN where the setting is above 0, TIMECLOSED where
-- it is 0, and every other key
abbrev pub is_open : Option Rational → Bool
is_open None = false
is_open (Some setting) = less zero setting

abbrev pub is_closed : Option Rational → Bool
is_closed None = false
is_closed (Some setting) = same setting zero

abbrev pub is_present : Key → Option Rational → Bool
is_present (Object object TimeOpen) setting = is_open setting
is_present (Object object TimeClosed) setting = is_closed setting
is_present key setting = true

-- `value KEY VALUE`
abbrev pub value_line : Objects → Key → Option (List ℕ) → Option Rational
value_line objects key None = None
value_line objects key (Some line) = past_key value_text objects key line >>= value_of

abbrev pub value_after : Key → ℕ → Option Rational → (Rational → Reading (List (Key × Rational)))
    → Reading (List (Key × Rational))
value_after key at None later = Err at
value_after key at (Some q) later = later q

-- a value for each of these keys that the state has, beside those of earlier keys, in key order; with
-- the last setting so far
unfoldable pub values_from : List Line → Objects → List Key → ℕ → Option Rational
    → List (Key × Rational) → Reading (List (Key × Rational))
values_from lines objects [] at setting values = Ok (read_to values at)
values_from lines objects (key ∷ more) at setting values =
    if is_present key setting
    then value_after key at (value_line objects key (line_at lines at))
    (λ q. values_from lines objects more (suc at) (setting_after key q setting)
    (insert_entry key_cmp values key q))
    else values_from lines objects more at setting values

-- `moment M`
abbrev pub moment_text : Word
moment_text = codes "moment"

abbrev pub moment_by : List Word → Option ℤ
moment_by (head ∷ moment ∷ []) =
    if bytes_eq head moment_text then written_moment_of moment else None
moment_by words = None

abbrev pub moment_line : Option (List ℕ) → Option ℤ
moment_line None = None
moment_line (Some line) = moment_by (words_of line)

-- the state with these values, and where the grid has moments a line with its moment
abbrev pub span_at : ℤ → Option (ℤ × ℤ)
span_at moment = Some (moment, moment)

abbrev pub state_with : List Line → Rules → Bool → List (Key × Rational) → ℕ → Reading State
state_with lines x false values at = Ok (read_to (sample_with x None values) at)
state_with lines x true values at =
    made_of (λ moment. sample_with x (span_at moment) values)
    (one_line (moment_line (line_at lines at)) at)

unfoldable pub state_from : List Line → Rules → Objects → Grid → ℕ → Reading State
state_from lines x objects grid at =
    behind (values_from lines objects grid.keys at None [])
    (state_with lines x grid.has_moments)

-- ---- cells
abbrev pub piece_text : Word
piece_text = codes "piece"

-- `piece KEY PIECE`
abbrev pub piece_line : Objects → Key → Option (List ℕ) → Option Interval
piece_line objects key None = None
piece_line objects key (Some line) = past_key piece_text objects key line >>= piece_of

abbrev pub piece_after : Key → ℕ → Option Interval → (Interval → Reading (List (Key × Interval)))
    → Reading (List (Key × Interval))
piece_after key at None later = Err at
piece_after key at (Some piece) later = later piece

-- a piece for each of these keys, behind those of earlier keys
unfoldable pub pieces_from : List Line → Objects → List Key → ℕ → List (Key × Interval)
    → Reading (List (Key × Interval))
pieces_from lines objects [] at pieces = Ok (read_to pieces at)
pieces_from lines objects (key ∷ more) at pieces =
    piece_after key at (piece_line objects key (line_at lines at))
    (λ piece. pieces_from lines objects more (suc at) (pieces ++ (key, piece) ∷ []))

-- `piece MOMENT FIRST LAST`
abbrev pub clock_text : Word
clock_text = codes "MOMENT"

abbrev pub span_of : Option ℤ → Option ℤ → Option (ℤ × ℤ)
span_of None last = None
span_of (Some first) None = None
span_of (Some first) (Some last) = if int_lt last first then None else Some (first, last)

abbrev pub span_by : List Word → Option (ℤ × ℤ)
span_by (head ∷ second ∷ first ∷ last ∷ []) =
    if bytes_eq head piece_text && bytes_eq second clock_text
    then span_of (written_moment_of first) (written_moment_of last) else None
span_by words = None

abbrev pub span_line : Option (List ℕ) → Option (ℤ × ℤ)
span_line None = None
span_line (Some line) = span_by (words_of line)

abbrev pub cell_of : List (Key × Interval) → Option (ℤ × ℤ) → Cell
cell_of pieces moments = record { keys = pieces; moments = moments }

-- the cell with these pieces, and where the grid has moments a line with its moments
abbrev pub cell_with : List Line → Bool → List (Key × Interval) → ℕ → Reading Cell
cell_with lines false pieces at = Ok (read_to (cell_of pieces None) at)
cell_with lines true pieces at =
    made_of (λ span. cell_of pieces (Some span)) (one_line (span_line (line_at lines at)) at)

unfoldable pub cell_from : List Line → Objects → Grid → ℕ → Reading Cell
cell_from lines objects grid at =
    behind (pieces_from lines objects grid.keys at []) (cell_with lines grid.has_moments)
