-- The points of a table that is read rise, and there is one.
use Rattle.std.proofs.Common.{◌≡◌, ℕ, zero, suc, ◌+◌, ◌<◌, Bool, true, false, cond, Option, Some, None, Result, Ok, Err, List, [], ◌∷◌, ◌++◌, length, get_or, refl, subst, arith}
use Rattle.std.specs.Prelude.{◌||◌, ◌&&◌, not}
use Rattle.exact_fraction.specs.Number.{Rational}
use Rattle.exact_fraction.specs.Order.{◌<ℚ◌, less}
use Rattle.exact_fraction.proofs.PublicLaws.{tests-less}
use Rattle.inp_text.specs.Items.{items}
use Rattle.inp_text.specs.declared.source_line.SourceLine.{SourceLine}
use Rattle.num_text.specs.Numbers.{number_if_read}
use Rattle.num_text.specs.declared.error.NumberFault.{NumberFault}
use Rattle.num_text.specs.declared.error.NumberFault.TheVariants.{BadNumber, TooLarge}
use Rattle.rule_types.specs.declared.refusal.Refusal.{Refusal}
use Rattle.rule_types.specs.declared.table.Point.{Point}
use Rattle.rule_types.specs.Tables.{IsPointList}
use Rattle.curves_series.specs.Pairs.{Pair, LineRead, is_no_number, is_too_large, is_not_above, has_bad_pair, last_x, first_too_large, with_point, points_of, unless_too_large, pairs_read, before_later}
use Rattle.curves_series.specs.Curves.{number_pairs, values_of, has_two, pairs_or, bad_curve, items_read, curve_line, then_later, curve_lines}
use Rattle.curves_series.specs.internal.Rising.{IsAbove, IsRising}

pub or_false : (a b : Bool) → (a || b) ≡ false → (a ≡ false) × (b ≡ false)
or_false true b h = absurd (grind arith)
or_false false b h = (refl, h)

-- ---- pairs
above_by : (before : Option Rational) (x : Rational) → is_not_above before (Some x) ≡ false → IsAbove before x
above_by None x h = tt
above_by (Some before) x h =
    let is : less before x ≡ true = grind arith in
    (tests-less before x).0 is

pair_by : (before : Option Rational) (x y : Result Rational NumberFault) (x_item y_item : List ℕ) (bad : Bool) (large : Option (List ℕ)) (rest later : List Point) → (((is_no_number x || is_no_number y) || is_not_above before (number_if_read x)) || bad) ≡ false → cond (is_too_large x) (Some x_item) (cond (is_too_large y) (Some y_item) large) ≡ None → (bad ≡ false → large ≡ None → IsRising (number_if_read x) (rest ++ later)) → IsRising before (with_point x y rest ++ later)
pair_by before (Ok x) (Ok y) x_item y_item bad large rest later h none go =
    let tests = or_false (is_not_above before (Some x)) bad h in
    (above_by before x tests.0, go tests.1 none)
pair_by before (Ok x) (Err BadNumber) x_item y_item bad large rest later h none go = absurd (grind arith)
pair_by before (Ok x) (Err TooLarge) x_item y_item bad large rest later h none go = absurd (grind arith)
pair_by before (Err BadNumber) y x_item y_item bad large rest later h none go = absurd (grind arith)
pair_by before (Err TooLarge) y x_item y_item bad large rest later h none go = absurd (grind arith)

pairs_rise : (before : Option Rational) (pairs : List Pair) (later : List Point) → has_bad_pair before pairs ≡ false → first_too_large pairs ≡ None → IsRising (last_x before pairs) later → IsRising before (points_of pairs ++ later)
unfolding has_bad_pair first_too_large last_x points_of
pairs_rise before [] later h none rise = rise
pairs_rise before (pair ∷ rest) later h none rise =
    pair_by before pair.x pair.y pair.x_item pair.y_item _ _ (points_of rest) later h none (λ b l. pairs_rise (number_if_read pair.x) rest later b l rise)

-- what is known where a line's pairs are read
read_by : (bad : Bool) (large : Option (List ℕ)) (refusal : Refusal) (given read : LineRead) → cond bad (Err refusal) (unless_too_large refusal.line large given) ≡ Ok read → (bad ≡ false) × (large ≡ None) × (given ≡ read)
read_by true large refusal given read h = absurd (grind arith)
read_by false (Some item) refusal given read h = absurd (grind arith)
read_by false None refusal given read h = (refl, refl, grind arith)

pub read_rises : (bad : Refusal) (before : Option Rational) (pairs : List Pair) (read : LineRead) (later : List Point) → pairs_read bad before pairs ≡ Ok read → IsRising read.last later → IsRising before (read.points ++ later)
unfolding pairs_read
read_rises bad before pairs read later h rise =
    let known = read_by (has_bad_pair before pairs) (first_too_large pairs) bad (record { points = points_of pairs; last = last_x before pairs }) read h in
    let same = known.2 in
    subst (λ r. IsRising r.last later → IsRising before (r.points ++ later)) same (pairs_rise before pairs later known.0 known.1) rise

pair_counts : (before : Option Rational) (x y : Result Rational NumberFault) (x_item y_item : List ℕ) (bad : Bool) (large : Option (List ℕ)) (rest : List Point) → (((is_no_number x || is_no_number y) || is_not_above before (number_if_read x)) || bad) ≡ false → cond (is_too_large x) (Some x_item) (cond (is_too_large y) (Some y_item) large) ≡ None → 0 < length (with_point x y rest)
pair_counts before (Ok x) (Ok y) x_item y_item bad large rest h none = omega arith
pair_counts before (Ok x) (Err BadNumber) x_item y_item bad large rest h none = absurd (grind arith)
pair_counts before (Ok x) (Err TooLarge) x_item y_item bad large rest h none = absurd (grind arith)
pair_counts before (Err BadNumber) y x_item y_item bad large rest h none = absurd (grind arith)
pair_counts before (Err TooLarge) y x_item y_item bad large rest h none = absurd (grind arith)

some_by : (before : Option Rational) (pairs : List Pair) → 0 < length pairs → has_bad_pair before pairs ≡ false → first_too_large pairs ≡ None → 0 < length (points_of pairs)
unfolding has_bad_pair first_too_large points_of
some_by before [] lt h none = absurd (omega (arith, lt))
some_by before (pair ∷ rest) lt h none =
    pair_counts before pair.x pair.y pair.x_item pair.y_item _ _ (points_of rest) h none

-- a line with a pair gives a point
pub read_some : (bad : Refusal) (before : Option Rational) (pairs : List Pair) (read : LineRead) → 0 < length pairs → pairs_read bad before pairs ≡ Ok read → 0 < length read.points
unfolding pairs_read
read_some bad before pairs read lt h =
    let known = read_by (has_bad_pair before pairs) (first_too_large pairs) bad (record { points = points_of pairs; last = last_x before pairs }) read h in
    subst (λ r. 0 < length r.points) known.2 (some_by before pairs lt known.0 known.1)

-- ---- curves
or_rises : (bad : Refusal) (before : Option Rational) (pairs : Option (List Pair)) (read : LineRead) (later : List Point) → pairs_or bad before pairs ≡ Ok read → IsRising read.last later → IsRising before (read.points ++ later)
or_rises bad before None read later h rise = absurd (grind arith)
or_rises bad before (Some pairs) read later h rise = read_rises bad before pairs read later h rise

pub items_by : (refused : Bool) (bad : Refusal) (due : Result LineRead Refusal) (read : LineRead) → cond refused (Err bad) due ≡ Ok read → (refused ≡ false) × (due ≡ Ok read)
items_by true bad due read h = absurd (grind arith)
items_by false bad due read h = (refl, h)

line_rises : (name : List ℕ) (is_first pointed : Bool) (before : Option Rational) (line : SourceLine) (read : LineRead) (later : List Point) → curve_line name is_first pointed before line ≡ Ok read → IsRising read.last later → IsRising before (read.points ++ later)
unfolding curve_line items_read
line_rises name is_first pointed before line read later h rise =
    or_rises (bad_curve name line) before (number_pairs (values_of is_first (items line.bytes))) read later (items_by (is_first && (not (has_two (items line.bytes)) || not pointed)) (bad_curve name line) _ read h).1 rise

-- what is known where the lines are read
pub then_known : (due : Result LineRead Refusal) (later : Option Rational → Result (List Point) Refusal) (points : List Point) → then_later due later ≡ Ok points → (read : LineRead) × (due ≡ Ok read) × ((rest : List Point) × (later read.last ≡ Ok rest) × (read.points ++ rest ≡ points))
then_known (Err refusal) later points h = absurd (grind arith)
then_known (Ok read) later points h = (read, refl, by (later read.last) refl h)
  where
    by : (r : Result (List Point) Refusal) → later read.last ≡ r → before_later read.points r ≡ Ok points → (rest : List Point) × (later read.last ≡ Ok rest) × (read.points ++ rest ≡ points)
    by (Err refusal) is e = absurd (grind arith)
    by (Ok rest) is e = (rest, is, grind arith)

pub curve_rises : (name : List ℕ) (is_first pointed : Bool) (before : Option Rational) (lines : List SourceLine) (points : List Point) → curve_lines name is_first pointed before lines ≡ Ok points → IsRising before points
unfolding curve_lines
curve_rises name is_first pointed before [] points h =
    let none : [] ≡ points = grind arith in
    subst (λ ps. IsRising before ps) none tt
curve_rises name is_first pointed before (line ∷ later) points h =
    let known = then_known (curve_line name is_first pointed before line) (λ last. curve_lines name false pointed last later) points h in
    let rest = known.2.0 in
    subst (λ ps. IsRising before ps) known.2.2 (line_rises name is_first pointed before line known.0 rest known.1 (curve_rises name false pointed known.0.last later rest known.2.1))

-- ---- from front to back
adjacent : (before : Option Rational) (points : List Point) → IsRising before points → (k : ℕ) (d : Point) → suc k < length points → (get_or points k d).x <ℚ (get_or points (suc k) d).x
adjacent before [] h k d lt = absurd (omega (arith, lt))
adjacent before (p ∷ []) h k d lt = absurd (omega (arith, lt))
adjacent before (p ∷ q ∷ more) (above, (next, rest)) zero d lt = next
adjacent before (p ∷ q ∷ more) (above, rest) (suc k) d lt = adjacent (Some p.x) (q ∷ more) rest k d (omega (arith, lt))

pub rising_list : (points : List Point) → IsRising None points → 0 < length points → IsPointList points
rising_list points h some = record {
  pointed = some;
  rising = λ k d lt. (
      let one : suc k ≡ k + 1 = omega arith in
      subst (λ j. (get_or points k d).x <ℚ (get_or points j d).x) one (adjacent None points h k d (omega (arith, lt))));
}
