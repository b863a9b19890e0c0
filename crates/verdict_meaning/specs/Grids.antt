-- The grid of a question: the cells into which the ranges are cut, and a state of each.
use Rattle.std.specs.Prelude.{ℕ, suc, ◌+◌, ◌*◌, Bool, true, false, not, ◌&&◌, ◌||◌, ◌==◌}
use Rattle.std.specs.Prelude.{if◌then◌else◌, Option, Some, None, List, [], ◌∷◌, ◌++◌, map, length}
use Rattle.std.specs.Prelude.{slice_get, ℤ, pos, ◌+ℤ◌, ◌-ℤ◌, int_lt, unsigned_abs, filter}
use Rattle.std.specs.Prelude.{option_and_then, option_map}
use Rattle.std.specs.Prelude.{zero as nothing}
use Rattle.std.specs.Int.{int_rem_euclid}
use Rattle.std.specs.List.{flat_map, list_any}
use Rattle.std.specs.Ordering.{int_eq}
use Rattle.exact_fraction.specs.Number.{Rational, zero, fits}
use Rattle.exact_fraction.specs.Operations.{difference_of, sum_of, middle_of}
use Rattle.exact_fraction.specs.Order.{less, same}
use Rattle.interval_sets.specs.declared.interval.Bound.{Bound}
use Rattle.interval_sets.specs.declared.interval.Bound.TheVariants as end
use Rattle.interval_sets.specs.declared.interval.Interval.{Interval}
use Rattle.interval_sets.specs.Intervals.{lies_in, point_of}
use Rattle.rule_types.specs.declared.action.PidMemory.{PidMemory}
use Rattle.rule_types.specs.declared.condition.Condition.{Condition}
use Rattle.rule_types.specs.declared.condition.Right.{Right}
use Rattle.rule_types.specs.declared.condition.Right.TheVariants as right
use Rattle.rule_types.specs.declared.condition.Side.{Side}
use Rattle.rule_types.specs.declared.condition.Side.TheVariants as side
use Rattle.rule_types.specs.declared.key.Attr.TheVariants.{Setting, Status, TimeOpen, TimeClosed}
use Rattle.rule_types.specs.declared.key.Key.{Key}
use Rattle.rule_types.specs.declared.key.Key.TheVariants.{Object, Clock}
use Rattle.rule_types.specs.declared.names.NameDef.{NameDef}
use Rattle.rule_types.specs.declared.object.Space.TheVariants.{Links}
use Rattle.rule_types.specs.declared.rule.Rule.{Rule}
use Rattle.rule_types.specs.declared.rules.Rules.{Rules}
use Rattle.rule_types.specs.declared.state.LinkState.{LinkState}
use Rattle.rule_types.specs.declared.state.State.{State}
use Rattle.rule_meaning.specs.Condition.{half_of, hours_of_step, second_truth}
use Rattle.rule_meaning.specs.Pid.{fresh}
use Rattle.moment_pieces.specs.Pieces.{piece_firsts}
use Rattle.moment_pieces.specs.Sides.{side_of}
use Rattle.verdict_meaning.specs.declared.cell.Cell.{Cell}
use Rattle.verdict_meaning.specs.declared.question.Question.{Question}
use Rattle.verdict_meaning.specs.declared.question.Question.TheVariants.{Conflict, Dead, Limit}
use Rattle.verdict_meaning.specs.declared.ranges.Ranges.{Ranges}
use Rattle.verdict_meaning.specs.Boxes.{first_box}
use Rattle.verdict_meaning.specs.Premises.{start_of}
use Rattle.verdict_meaning.specs.Questions.{asked_numbers, asked_rules, setting_key}
use Rattle.verdict_meaning.specs.Reaches.{same_key}
use Rattle.verdict_meaning.specs.Truths.{on_clock}

-- ---- cuts

-- a number among numbers that rise, once
unfoldable pub inserted : Rational → List Rational → List Rational
inserted q [] = q ∷ []
inserted q (p ∷ cuts) =
    if less q p then q ∷ p ∷ cuts
    else (if less p q then p ∷ inserted q cuts else p ∷ cuts)

unfoldable pub rising : List Rational → List Rational
rising [] = []
rising (q ∷ more) = inserted q (rising more)

-- the ends of an interval
abbrev pub end_numbers : Bound → List Rational
end_numbers end.NoBound = []
end_numbers (end.Bound p m) = p ∷ []

-- the cuts at which a comparison of a key with a number is decided: the number, or the two ends of
-- its window where it is read within half a step of so many seconds
abbrev pub number_cuts : Bool → Rational → Rational → List Rational
number_cuts half_step step q =
    if half_step
    then difference_of q (half_of (hours_of_step step))
    ∷ sum_of q (half_of (hours_of_step step)) ∷ []
    else q ∷ []

-- whether the SETTING of a STATUS is a key
abbrev pub is_setting_of : Key → Key → Bool
is_setting_of key (Object object Status) = same_key key (Object object Setting)
is_setting_of key other = false

-- the cuts of a key in a comparison of another key with a number: a condition on STATUS cuts
-- SETTING at 0
abbrev pub key_cuts : Key → Bool → Rational → Key → Rational → List Rational
key_cuts key half_step step left q =
    if same_key key left
    then number_cuts half_step step q
    else (if is_setting_of key left then zero ∷ [] else [])

abbrev pub side_cuts : Key → Bool → Rational → Side → Right → List Rational
side_cuts key half_step step (side.Key left) (right.Value q) = key_cuts key half_step step left q
side_cuts key half_step step (side.Key left) (right.Key other) =
    if is_setting_of key left then zero ∷ [] else []
side_cuts key half_step step (side.Expr name) right = []

unfoldable pub condition_cuts : List NameDef → Rational → Key → Condition → List Rational
condition_cuts names step key c =
    side_cuts key c.half_step step (side_of names c.left) c.right

-- a limit cuts the SETTING of its link at its two numbers
abbrev pub limit_cuts : Key → Question → List Rational
limit_cuts key (Conflict first second link) = []
limit_cuts key (Dead number) = []
limit_cuts key (Limit link lo hi) = if same_key key (setting_key link) then lo ∷ hi ∷ [] else []

-- the cuts of a key in its range: the ends of the range, and what else lies in it
unfoldable pub cuts_of : Rules → Question → Key → Interval → List Rational
cuts_of x question key range =
    rising
    (end_numbers range.low ++ end_numbers range.high
    ++ filter (lies_in range)
    (limit_cuts key question
    ++ flat_map (λ rule. flat_map (condition_cuts x.names x.routing_step key) rule.conditions)
    (asked_rules x question)))

-- ---- pieces

-- what lies between two numbers, without them
abbrev pub gap_of : Rational → Rational → Interval
gap_of p q = record { low = end.Bound p true; high = end.Bound q true }

-- the cuts as points and the gaps between them, in rising order
unfoldable pub pieces_of : List Rational → List Interval
pieces_of [] = []
pieces_of (p ∷ []) = point_of p ∷ []
pieces_of (p ∷ q ∷ more) = point_of p ∷ gap_of p q ∷ pieces_of (q ∷ more)

-- ---- moment pieces

-- the pieces that begin at these seconds, up to the last moment
unfoldable pub spans_to : ℤ → List ℤ → List (ℤ × ℤ)
spans_to last [] = []
spans_to last (first ∷ []) = (first, last) ∷ []
spans_to last (first ∷ next ∷ more) = (first, next -ℤ pos 1) ∷ spans_to last (next ∷ more)

-- the moments of the cells: one piece each, or none where the grid has no moments
abbrev pub moment_pieces : Rules → Question → Option (ℤ × ℤ) → List (Option (ℤ × ℤ))
moment_pieces x question None = None ∷ []
moment_pieces x question (Some span) =
    map (λ piece. Some piece)
    (spans_to span.1
    (piece_firsts x (asked_numbers x question) x.routing_step (start_of x) span.0 span.1))

-- ---- cells

-- the pieces of each key of a box
pub record Axis : Type 0 where
  pub key : Key
  pub pieces : List Interval

unfoldable pub axes_of : Rules → Question → List (Key × Interval) → List Axis
axes_of x question keys =
    map
    (λ entry.
    record { key = entry.0; pieces = pieces_of (cuts_of x question entry.0 entry.1) })
    keys

-- one piece for each key, where the first key changes slowest
unfoldable pub combinations : List Axis → List (List (Key × Interval))
combinations [] = [] ∷ []
combinations (axis ∷ more) =
    flat_map (λ piece. map (λ cell. (axis.key, piece) ∷ cell) (combinations more)) axis.pieces

-- the cells: one piece for each key, and where the grid has moments one moment piece, which changes
-- fastest
unfoldable pub cells_of : Rules → Question → Cell → List Cell
cells_of x question box =
    flat_map
    (λ keys.
    map (λ span. record { keys = keys; moments = span })
    (moment_pieces x question box.moments))
    (combinations (axes_of x question box.keys))

unfoldable pub grid_cells : Rules → Question → Ranges → List Cell
grid_cells x question ranges = cells_of x question (first_box x question ranges)

-- the number of cells, as a product
unfoldable pub product_of_lengths : List Axis → ℕ
product_of_lengths [] = 1
product_of_lengths (axis ∷ more) = length axis.pieces * product_of_lengths more

unfoldable pub cell_count : Rules → Question → Ranges → ℕ
cell_count x question ranges =
    product_of_lengths (axes_of x question (first_box x question ranges).keys)
    * length (moment_pieces x question (first_box x question ranges).moments)

-- ---- samples

-- the number of a piece: its point, or the middle of its gap where that fits
abbrev pub middle_if : Rational → Option Rational
middle_if q = if fits q then Some q else None

unfoldable pub piece_number : Bound → Bound → Option Rational
piece_number (end.Bound p m) (end.Bound q n) =
    if same p q then Some p else middle_if (middle_of p q)
piece_number (end.Bound p m) end.NoBound = None
piece_number end.NoBound high = None

-- the number of each key of a cell, if all fit
unfoldable pub cell_numbers : List (Key × Interval) → Option (List (Key × Rational))
cell_numbers [] = Some []
cell_numbers (entry ∷ more) =
    option_and_then
    (λ q. option_map (λ numbers. (entry.0, q) ∷ numbers) (cell_numbers more))
    (piece_number entry.1.low entry.1.high)

-- the number of a key among them
unfoldable pub number_of_key : Key → List (Key × Rational) → Option Rational
number_of_key key [] = None
number_of_key key (entry ∷ more) =
    if same_key key entry.0 then Some entry.1 else number_of_key key more

abbrev pub number_or : Rational → Option Rational → Rational
number_or other None = other
number_or other (Some q) = q

abbrev pub timer_key : Rational → ℕ → Key
timer_key setting link =
    if less zero setting
    then Object (record { space = Links; index = link }) TimeOpen
    else Object (record { space = Links; index = link }) TimeClosed

-- a link at a setting: its target is the setting, and its timer the number of the timer key that
-- the setting makes present, or 0
abbrev pub link_at : List (Key × Rational) → ℕ → Rational → LinkState
link_at numbers link setting =
    record {
      setting = setting;
      target = setting;
      timer = number_or zero (number_of_key (timer_key setting link) numbers);
    }

-- the tracked links, of which each outside the grid has its initial setting
unfoldable pub sample_links : List (Key × Rational) → List ℕ → List Rational → List LinkState
sample_links numbers [] initial = []
sample_links numbers (link ∷ links) [] = []
sample_links numbers (link ∷ links) (first ∷ initial) =
    link_at numbers link (number_or first (number_of_key (setting_key link) numbers))
    ∷ sample_links numbers links initial

abbrev pub sample_moment : ℤ → Option (ℤ × ℤ) → ℤ
sample_moment start None = start
sample_moment start (Some span) = span.0

-- the sample of a cell with these numbers: inputs outside the grid are missing
abbrev pub sample_with : Rules → Option (ℤ × ℤ) → List (Key × Rational) → State
sample_with x span numbers =
    record {
      moment = sample_moment (start_of x) span;
      start = start_of x;
      step = x.routing_step;
      inputs = map (λ key. number_of_key key numbers) x.input_keys;
      links = sample_links numbers x.tracked x.initial;
    }

-- the sample of a cell, unless a middle does not fit
unfoldable pub sample_of : Rules → Cell → Option State
sample_of x cell = option_map (sample_with x cell.moments) (cell_numbers cell.keys)

-- its memories: the errors 0 and 0
abbrev pub sample_memory : ℕ → PidMemory
sample_memory number = fresh
