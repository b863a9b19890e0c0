-- Curves as their lines give them (SWMM 5.2 manual, [CURVES]).
use Rattle.std.specs.Prelude.{ℕ, Bool, true, false, not, ◌&&◌, ◌||◌, if◌then◌else◌}
use Rattle.std.specs.Prelude.{Option, None, Some, Result, Ok, Err, List, [], ◌∷◌, drop, option_map}
use Rattle.exact_fraction.specs.Number.{Rational}
use Rattle.inp_text.specs.Items.{items}
use Rattle.inp_text.specs.declared.source_line.SourceLine.{SourceLine}
use Rattle.num_text.specs.Numbers.{number_of}
use Rattle.rule_types.specs.Tables.{CurveTable}
use Rattle.rule_types.specs.declared.refusal.Cause.TheVariants.{BadCurve}
use Rattle.rule_types.specs.declared.refusal.Refusal.{Refusal}
use Rattle.rule_types.specs.declared.table.Point.{Point}
use Rattle.curves_series.specs.Pairs.{Pair, LineRead, pairs_read, before_later}
use Rattle.curves_series.specs.Groups.{Group}

-- two items as a pair of numbers
abbrev pub number_pair : List ℕ → List ℕ → Pair
number_pair x y = record { x_item = x; x = number_of x; y_item = y; y = number_of y }

-- items as pairs of numbers, two at a time; none where their number is odd
unfoldable pub number_pairs : List (List ℕ) → Option (List Pair)
number_pairs [] = Some []
number_pairs (x ∷ []) = None
number_pairs (x ∷ y ∷ later) = option_map (λ pairs. number_pair x y ∷ pairs) (number_pairs later)

-- the items of a curve's line behind its name and, on its first line, its type word
abbrev pub values_of : Bool → List (List ℕ) → List (List ℕ)
values_of true found = drop 2 found
values_of false found = drop 1 found

-- there are two items or more
abbrev pub has_two : List (List ℕ) → Bool
has_two [] = false
has_two (first ∷ []) = false
has_two (first ∷ second ∷ later) = true

-- one of the lines of a curve, from its first or from a later one, has two items or more for points
unfoldable pub has_point : Bool → List SourceLine → Bool
has_point is_first [] = false
has_point is_first (line ∷ later) =
    has_two (values_of is_first (items line.bytes)) || has_point false later

-- the refusal of a line of a curve
abbrev pub bad_curve : List ℕ → SourceLine → Refusal
bad_curve name line = record { line = line.number; cause = BadCurve; token = name }

-- what the pairs of a line give, and the refusal `bad` where its items make no whole pairs
abbrev pub pairs_or : Refusal → Option Rational → Option (List Pair) → Result LineRead Refusal
pairs_or bad before None = Err bad
pairs_or bad before (Some pairs) = pairs_read bad before pairs

-- What the items of a line of a curve give behind the x before. The first line of a curve is also
-- refused where it has no type word, and where the curve has no point (`pointed` is false).
unfoldable pub items_read : Refusal → Bool → Bool → Option Rational → List (List ℕ)
    → Result LineRead Refusal
items_read bad is_first pointed before found =
    if is_first && (not (has_two found) || not pointed)
    then Err bad
    else pairs_or bad before (number_pairs (values_of is_first found))

unfoldable pub curve_line : List ℕ → Bool → Bool → Option Rational → SourceLine
    → Result LineRead Refusal
curve_line name is_first pointed before line =
    items_read (bad_curve name line) is_first pointed before (items line.bytes)

-- the points of a line, and of the later lines behind its last x
abbrev pub then_later : Result LineRead Refusal
    → (Option Rational → Result (List Point) Refusal) → Result (List Point) Refusal
then_later (Ok read) later = before_later read.points (later read.last)
then_later (Err refusal) later = Err refusal

-- the points of the lines of a curve, from its first or from a later one, or the first refusal
unfoldable pub curve_lines : List ℕ → Bool → Bool → Option Rational → List SourceLine
    → Result (List Point) Refusal
curve_lines name is_first pointed before [] = Ok []
curve_lines name is_first pointed before (line ∷ later) =
    then_later (curve_line name is_first pointed before line)
    (λ last. curve_lines name false pointed last later)

-- a curve of these points, if they are read
abbrev pub curve_with : List ℕ → Result (List Point) Refusal → Result CurveTable Refusal
curve_with name (Ok points) = Ok (record { name = name; points = points })
curve_with name (Err refusal) = Err refusal

-- The curve of its lines, or the first refusal on one of them.
unfoldable pub curve_of : Group → Result CurveTable Refusal
curve_of group =
    curve_with group.name
    (curve_lines group.name true (has_point true group.lines) None group.lines)
