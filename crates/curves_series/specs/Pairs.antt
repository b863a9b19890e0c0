-- The pairs x y of one line of a table, and the points that they give (SWMM 5.2 manual, [CURVES]
-- and [TIMESERIES]).
use Rattle.std.specs.Prelude.{ℕ, Bool, true, false, not, ◌||◌, if◌then◌else◌, Option, None, Some}
use Rattle.std.specs.Prelude.{Result, Ok, Err, List, [], ◌∷◌, ◌++◌}
use Rattle.exact_fraction.specs.Number.{Rational}
use Rattle.exact_fraction.specs.Order.{less}
use Rattle.num_text.specs.Numbers.{number_if_read}
use Rattle.num_text.specs.declared.error.NumberFault.{NumberFault}
use Rattle.num_text.specs.declared.error.NumberFault.TheVariants.{BadNumber, TooLarge}
use Rattle.rule_types.specs.declared.refusal.Cause.TheVariants.{NumberTooLarge}
use Rattle.rule_types.specs.declared.refusal.Refusal.{Refusal}
use Rattle.rule_types.specs.declared.table.Point.{Point}

-- a pair: each item with the number that is read of it, or why there is none
pub record Pair : Type 0 where
  pub x_item : List ℕ
  pub x : Result Rational NumberFault
  pub y_item : List ℕ
  pub y : Result Rational NumberFault

-- an item is no number, and one that is too large
abbrev pub is_no_number : Result Rational NumberFault → Bool
is_no_number (Ok q) = false
is_no_number (Err BadNumber) = true
is_no_number (Err TooLarge) = false

abbrev pub is_too_large : Result Rational NumberFault → Bool
is_too_large (Ok q) = false
is_too_large (Err BadNumber) = false
is_too_large (Err TooLarge) = true

-- an x is not above the x before; nothing is compared where one of them is unknown
abbrev pub is_not_above : Option Rational → Option Rational → Bool
is_not_above None x = false
is_not_above (Some before) None = false
is_not_above (Some before) (Some x) = not (less before x)

-- a pair has an item that is no number, or an x that is not above the x before
abbrev pub is_bad_pair : Option Rational → Pair → Bool
is_bad_pair before pair =
    (is_no_number pair.x || is_no_number pair.y) || is_not_above before (number_if_read pair.x)

-- one of these pairs is so; the x before a pair is that of the pair just before
unfoldable pub has_bad_pair : Option Rational → List Pair → Bool
has_bad_pair before [] = false
has_bad_pair before (pair ∷ later) =
    is_bad_pair before pair || has_bad_pair (number_if_read pair.x) later

-- the x of the last pair, and where there is none the x before
unfoldable pub last_x : Option Rational → List Pair → Option Rational
last_x before [] = before
last_x before (pair ∷ later) = last_x (number_if_read pair.x) later

-- the first item that is a number that is too large
unfoldable pub first_too_large : List Pair → Option (List ℕ)
first_too_large [] = None
first_too_large (pair ∷ later) =
    if is_too_large pair.x then Some pair.x_item
    else (if is_too_large pair.y then Some pair.y_item else first_too_large later)

-- the points with the one of a pair in front, where both of its items are numbers
abbrev pub with_point : Result Rational NumberFault → Result Rational NumberFault → List Point
    → List Point
with_point (Ok x) (Ok y) points = record { x = x; y = y } ∷ points
with_point (Ok x) (Err fault) points = points
with_point (Err fault) y points = points

-- the points of pairs
unfoldable pub points_of : List Pair → List Point
points_of [] = []
points_of (pair ∷ later) = with_point pair.x pair.y (points_of later)

-- what a line of a table gives: its points, and the x that the next line's first x is compared with
pub record LineRead : Type 0 where
  pub points : List Point
  pub last : Option Rational

-- an item that is too large is refused by itself
abbrev pub unless_too_large : ℕ → Option (List ℕ) → LineRead → Result LineRead Refusal
unless_too_large number None read = Ok read
unless_too_large number (Some item) read =
    Err (record { line = number; cause = NumberTooLarge; token = item })

-- What the pairs of a line give behind the x before: the refusal `bad` where one of them is bad,
-- and else that of the first item that is too large.
unfoldable pub pairs_read : Refusal → Option Rational → List Pair → Result LineRead Refusal
pairs_read bad before pairs =
    if has_bad_pair before pairs then Err bad
    else unless_too_large bad.line (first_too_large pairs)
    (record { points = points_of pairs; last = last_x before pairs })

-- the points of a line before those of the later lines
abbrev pub before_later : List Point → Result (List Point) Refusal → Result (List Point) Refusal
before_later points (Ok later) = Ok (points ++ later)
before_later points (Err refusal) = Err refusal
