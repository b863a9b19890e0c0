-- The hull of a table holds its values.
use Rattle.std.proofs.Common.{◌≡◌, Bool, true, false, cond, Option, Some, None, Result, Ok, Err, List, [], ◌∷◌, inl, inr, refl, sym, ap, subst, ◌∙◌, arith}
use Rattle.std.specs.Prelude.{IsTrue}
use Rattle.exact_fraction.specs.Number.{Rational, zero}
use Rattle.exact_fraction.specs.Operations.{sum_of, difference_of, product_of, quotient_of}
use Rattle.exact_fraction.specs.Order.{◌≤ℚ◌, ◌<ℚ◌, ◌=ℚ◌, less, greater_of}
use Rattle.exact_fraction.specs.Checked.{checked}
use Rattle.exact_fraction.specs.declared.error.Overflow.{Overflow}
use Rattle.exact_fraction.proofs.PublicLaws.{tells-checked, tests-less, tests-not_less, tests-same, order-reflexive, order-transitive, order-antisymmetric, order-at_most_below, order-below_at_most, order-below_is_at_most, order-same_is_at_most, order-greater, order-same_transitive, straight_line-rising, straight_line-falling, straight_line-rising_below, straight_line-falling_below}
use Rattle.interval_sets.specs.Intervals.{lies_in, IsAbove, IsBelow, point_of}
use Rattle.interval_sets.specs.declared.interval.Bound.{Bound}
use Rattle.interval_sets.specs.declared.interval.Bound.TheVariants as end
use Rattle.interval_sets.specs.declared.interval.Interval.{Interval}
use Rattle.interval_sets.proofs.PublicLaws.{intervals-inside, intervals-hull_left, intervals-hull_right, intervals-point}
use Rattle.rule_types.specs.declared.table.Point.{Point}
use Rattle.rule_types.specs.Tables.{IsPointList}
use Rattle.rule_meaning.specs.CheckedSteps.{◌>>=◌}
use Rattle.rule_meaning.specs.StraightLines.{between, line_from, IsOnLine, IsTableValue}
use Rattle.table_hulls.specs.Hulls.{Part, values_between, values_over, value_of_point, hull_of_both, values_from, all_values, clamped_low, clamped_high, clamped, clamped_or_all, table_hull}
use Rattle.table_hulls.proofs.OnLine.{Rise, rising, between_points, at_first, at_last, itself, IsOn, on_line}

-- ---- checked steps
step_ok : {A B : Type 0} (r : Result A Overflow) (next : A → Result B Overflow) (y : B) → (r >>= next) ≡ Ok y → (v : A) × (r ≡ Ok v) × (next v ≡ Ok y)
step_ok (Ok v) next y h = (v, refl, h)
step_ok (Err why) next y h = absurd (grind arith)

one_value : {A : Type 0} (r : Result A Overflow) (a b : A) → r ≡ Ok a → r ≡ Ok b → a ≡ b
one_value r a b one two = let both : Ok a ≡ Ok b = sym one ∙ two in grind arith

goes_on : {B : Type 0} (q : Rational) (next : Rational → Result B Overflow) (y : B) → (checked q >>= next) ≡ Ok y → next q ≡ Ok y
goes_on q next y h = elim (tells-checked q) [
  | inl is ↦ subst (λ r. (r >>= next) ≡ Ok y) is.1 h
  | inr is ↦ (let other : (Err (record {}) >>= next) ≡ Ok y = subst (λ r. (r >>= next) ≡ Ok y) is.1 h in absurd (grind arith))
]

is_checked : (q y : Rational) → checked q ≡ Ok y → y ≡ q
is_checked q y h = elim (tells-checked q) [
  | inl is ↦ (let e : Ok q ≡ Ok y = sym is.1 ∙ h in grind arith)
  | inr is ↦ (let other : Err (record {}) ≡ Ok y = sym is.1 ∙ h in absurd (grind arith))
]

between_is : (p q : Point) (x y : Rational) → between p q x ≡ Ok y → y ≡ between_points p q x
unfolding between
between_is p q x y h =
    let rise = difference_of q.y p.y in
    let from = difference_of x p.x in
    let run = difference_of q.x p.x in
    let product = product_of rise from in
    let quotient = quotient_of product run in
    is_checked (sum_of p.y quotient) y
    (goes_on quotient _ y (goes_on product _ y (goes_on run _ y (goes_on from _ y (goes_on rise _ y h)))))

-- ---- the value at an end of a part between two points
end_by : (p q : Point) (l v : Rational) (b c : Bool) → less p.x l ≡ b → less l q.x ≡ c → p.x <ℚ q.x → p.x ≤ℚ l → l ≤ℚ q.x → cond b (cond c (between p q l) (Ok q.y)) (Ok p.y) ≡ Ok v → v =ℚ between_points p q l
end_by p q l v false c is next h from to e =
    let own : v ≡ p.y = grind arith in
    order-same_transitive v p.y _ (itself v p.y own) (at_first p q l h (order-antisymmetric l p.x ((tests-not_less p.x l).0 is) from))
end_by p q l v true false is next h from to e =
    let own : v ≡ q.y = grind arith in
    order-same_transitive v q.y _ (itself v q.y own) (at_last p q l h (order-antisymmetric l q.x to ((tests-not_less l q.x).0 next)))
end_by p q l v true true is next h from to e = itself v _ (between_is p q l v e)

at_end : (p q : Point) (l v : Rational) → p.x <ℚ q.x → p.x ≤ℚ l → l ≤ℚ q.x → line_from p (q ∷ []) l ≡ Ok v → v =ℚ between_points p q l
unfolding line_from
at_end p q l v h from to e = end_by p q l v (less p.x l) (less l q.x) refl refl h from to e

-- ---- ends of the values from ends of the part
chain_above : (m : Bool) (low a b y : Rational) → IsAbove (end.Bound a m) b → low =ℚ a → y =ℚ b → IsAbove (end.Bound low m) y
chain_above true low a b y h one two =
    order-below_at_most low b y (order-at_most_below low a b (order-same_is_at_most low a one).0 h) (order-same_is_at_most y b two).1
chain_above false low a b y h one two =
    order-transitive low b y (order-transitive low a b (order-same_is_at_most low a one).0 h) (order-same_is_at_most y b two).1

chain_below : (m : Bool) (high a b y : Rational) → IsBelow (end.Bound a m) b → high =ℚ a → y =ℚ b → IsBelow (end.Bound high m) y
chain_below true high a b y h one two =
    order-below_at_most y a high (order-at_most_below y b a (order-same_is_at_most y b two).0 h) (order-same_is_at_most high a one).1
chain_below false high a b y h one two =
    order-transitive y a high (order-transitive y b a (order-same_is_at_most y b two).0 h) (order-same_is_at_most high a one).1

up_above : (p q : Point) (m : Bool) (l x : Rational) → p.x <ℚ q.x → p.y <ℚ q.y → IsAbove (end.Bound l m) x → IsAbove (end.Bound (between_points p q l) m) (between_points p q x)
up_above p q true l x h up in_low = straight_line-rising_below p.x p.y q.x q.y l x h up in_low
up_above p q false l x h up in_low = straight_line-rising p.x p.y q.x q.y l x h (order-below_is_at_most p.y q.y up) in_low

up_below : (p q : Point) (m : Bool) (l x : Rational) → p.x <ℚ q.x → p.y <ℚ q.y → IsBelow (end.Bound l m) x → IsBelow (end.Bound (between_points p q l) m) (between_points p q x)
up_below p q true l x h up in_high = straight_line-rising_below p.x p.y q.x q.y x l h up in_high
up_below p q false l x h up in_high = straight_line-rising p.x p.y q.x q.y x l h (order-below_is_at_most p.y q.y up) in_high

down_above : (p q : Point) (m : Bool) (l x : Rational) → p.x <ℚ q.x → q.y <ℚ p.y → IsBelow (end.Bound l m) x → IsAbove (end.Bound (between_points p q l) m) (between_points p q x)
down_above p q true l x h down in_high = straight_line-falling_below p.x p.y q.x q.y x l h down in_high
down_above p q false l x h down in_high = straight_line-falling p.x p.y q.x q.y x l h (order-below_is_at_most q.y p.y down) in_high

down_below : (p q : Point) (m : Bool) (l x : Rational) → p.x <ℚ q.x → q.y <ℚ p.y → IsAbove (end.Bound l m) x → IsBelow (end.Bound (between_points p q l) m) (between_points p q x)
down_below p q true l x h down in_low = straight_line-falling_below p.x p.y q.x q.y l x h down in_low
down_below p q false l x h down in_low = straight_line-falling p.x p.y q.x q.y l x h (order-below_is_at_most q.y p.y down) in_low

level : (p q : Point) (x : Rational) → p.x <ℚ q.x → p.x ≤ℚ x → x ≤ℚ q.x → p.y =ℚ q.y → between_points p q x =ℚ p.y
level p q x h from to e =
    let up = (order-same_is_at_most p.y q.y e).0 in
    let first = order-same_is_at_most p.y _ (at_first p q p.x h (itself p.x p.x refl)) in
    let last = order-same_is_at_most q.y _ (at_last p q q.x h (itself q.x q.x refl)) in
    let low = order-transitive _ _ _ first.0 (straight_line-rising p.x p.y q.x q.y p.x x h up from) in
    let high = order-transitive _ _ _ (straight_line-rising p.x p.y q.x q.y x q.x h up to) last.1 in
    order-antisymmetric _ _ (order-transitive _ _ _ high (order-same_is_at_most p.y q.y e).1) low

-- ---- what holds a value
abbrev pub Holds : Option Interval → Rational → Type 0
Holds None y = ⊥
Holds (Some values) y = IsTrue (lies_in values y)

hull_left : (a b : Option Interval) (y : Rational) → Holds a y → Holds (hull_of_both a b) y
hull_left None b y h = absurd h
hull_left (Some a) None y h = h
hull_left (Some a) (Some b) y h = intervals-hull_left a b y h

hull_right : (a b : Option Interval) (y : Rational) → Holds b y → Holds (hull_of_both a b) y
hull_right None b y h = h
hull_right (Some a) None y h = absurd h
hull_right (Some a) (Some b) y h = intervals-hull_right a b y h

inside_ends : (low high : Bound) (y : Rational) → IsAbove low y → IsBelow high y → IsTrue (lies_in (record { low = low; high = high }) y)
inside_ends low high y a b = (intervals-inside (record { low = low; high = high }) y).1 (record { above = a; below = b })

at_point : (p : Rational) (y : Rational) → y =ℚ p → IsTrue (lies_in (point_of p) y)
at_point p y e = intervals-point p y ∙ (tests-same y p).1 e

-- ---- parts
-- the piece of a part between a and b that holds x, whose ends do not pass a and b
pub record IsPiece (part : Part) (a b x : Rational) : Type 0 where
  pub low : Rational
  pub low_out : Bool
  pub high : Rational
  pub high_out : Bool
  pub piece : part (end.Bound a false) (end.Bound b false) ≡ Some (record { low = end.Bound low low_out; high = end.Bound high high_out })
  pub from : a ≤ℚ low
  pub to : high ≤ℚ b
  pub above : IsAbove (end.Bound low low_out) x
  pub below : IsBelow (end.Bound high high_out) x

-- a part has x: it has a piece between any two ends round x
pub record HasX (part : Part) (x : Rational) : Type 0 where
  pub between : (a b : Rational) → a ≤ℚ x → x ≤ℚ b → IsPiece part a b x
  pub first : (b : Rational) → x ≤ℚ b → (piece : Interval) × (part end.NoBound (end.Bound b false) ≡ Some piece)
  pub last : (a : Rational) → a ≤ℚ x → (piece : Interval) × (part (end.Bound a false) end.NoBound ≡ Some piece)

above_at_most : (m : Bool) (a x : Rational) → IsAbove (end.Bound a m) x → a ≤ℚ x
above_at_most true a x h = order-below_is_at_most a x h
above_at_most false a x h = h

below_at_least : (m : Bool) (a x : Rational) → IsBelow (end.Bound a m) x → x ≤ℚ a
below_at_least true a x h = order-below_is_at_most x a h
below_at_least false a x h = h

-- ---- the values over a part between two points
between_by : (p q : Point) (l h : Rational) (m n : Bool) (x y low high : Rational) (b c : Bool) → less p.y q.y ≡ b → less q.y p.y ≡ c → p.x <ℚ q.x → p.x ≤ℚ x → x ≤ℚ q.x → IsAbove (end.Bound l m) x → IsBelow (end.Bound h n) x → low =ℚ between_points p q l → high =ℚ between_points p q h → y =ℚ between_points p q x → IsTrue (lies_in (cond b (record { low = end.Bound low m; high = end.Bound high n }) (cond c (record { low = end.Bound high n; high = end.Bound low m }) (point_of p.y))) y)
between_by p q l h m n x y low high true c is turned rise from to above below one two own =
    let up = (tests-less p.y q.y).0 is in
    inside_ends (end.Bound low m) (end.Bound high n) y (chain_above m low _ _ y (up_above p q m l x rise up above) one own) (chain_below n high _ _ y (up_below p q n h x rise up below) two own)
between_by p q l h m n x y low high false true is turned rise from to above below one two own =
    let down = (tests-less q.y p.y).0 turned in
    inside_ends (end.Bound high n) (end.Bound low m) y (chain_above n high _ _ y (down_above p q n h x rise down below) two own) (chain_below m low _ _ y (down_below p q m l x rise down above) one own)
between_by p q l h m n x y low high false false is turned rise from to above below one two own =
    let even = order-antisymmetric p.y q.y ((tests-not_less q.y p.y).0 turned) ((tests-not_less p.y q.y).0 is) in
    at_point p.y y (order-same_transitive y _ p.y own (level p q x rise from to even))

between_holds : (p q : Point) (l h : Rational) (m n : Bool) (x y low high : Rational) → p.x <ℚ q.x → p.x ≤ℚ x → x ≤ℚ q.x → IsAbove (end.Bound l m) x → IsBelow (end.Bound h n) x → low =ℚ between_points p q l → high =ℚ between_points p q h → y =ℚ between_points p q x → IsTrue (lies_in (values_between p q (record { low = end.Bound l m; high = end.Bound h n }) low high) y)
unfolding values_between
between_holds p q l h m n x y low high rise from to above below one two own =
    between_by p q l h m n x y low high (less p.y q.y) (less q.y p.y) refl refl rise from to above below one two own

over_holds : (part : Part) (p q : Point) (x y : Rational) (first : Option Interval) → p.x <ℚ q.x → p.x ≤ℚ x → x ≤ℚ q.x → y =ℚ between_points p q x → HasX part x → values_over p q (part (end.Bound p.x false) (end.Bound q.x false)) ≡ Ok first → Holds first y
over_holds part p q x y first rise from to own has e =
    let piece = has.between p.x q.x from to in
    let at = above_at_most piece.low_out piece.low x piece.above in
    let up = below_at_least piece.high_out piece.high x piece.below in
    let steps = subst (λ o. values_over p q o ≡ Ok first) piece.piece e in
    let low = step_ok (line_from p (q ∷ []) piece.low) _ first steps in
    let high = step_ok (line_from p (q ∷ []) piece.high) _ first low.2 in
    let one = at_end p q piece.low low.0 rise piece.from (order-transitive piece.low x q.x at to) low.1 in
    let two = at_end p q piece.high high.0 rise (order-transitive p.x x piece.high from up) piece.to high.1 in
    subst (λ o. Holds o y) (one_value _ _ first refl high.2) (between_holds p q piece.low piece.high piece.low_out piece.high_out x y low.0 high.0 rise from to piece.above piece.below one two own)

-- ---- the values from a point on
from_holds : (part : Part) (p : Point) (more : List Point) (x y : Rational) (values : Option Interval) → Rise p more → HasX part x → IsOn p more x y → values_from part p more ≡ Ok values → Holds values y
unfolding values_from
from_holds part p [] x y values rise has (from, own) e =
    let last = has.last p.x from in
    subst (λ o. Holds o y) (ap (value_of_point p) (sym last.1) ∙ one_value _ _ values refl e) (at_point p.y y (itself y p.y own))
from_holds part p (q ∷ more) x y values rise has on e =
    let first = step_ok (values_over p q (part (end.Bound p.x false) (end.Bound q.x false))) _ values e in
    let later = step_ok (values_from part q more) _ values first.2 in
    subst (λ o. Holds o y) (one_value _ _ values refl later.2) (elim on [
      | inl here ↦ hull_left first.0 later.0 y (over_holds part p q x y first.0 rise.0 here.0 here.1 here.2 has first.1)
      | inr there ↦ hull_right first.0 later.0 y (from_holds part q more x y later.0 rise.1 has there.1 later.1)
    ])

all_hold : (part : Part) (p : Point) (more : List Point) (x y : Rational) (values : Option Interval) → Rise p more → HasX part x → IsOnLine (p ∷ more) x y → all_values part (p ∷ more) ≡ Ok values → Holds values y
unfolding all_values
all_hold part p more x y values rise has on e =
    let later = step_ok (values_from part p more) _ values e in
    let front = value_of_point p (part end.NoBound (end.Bound p.x false)) in
    subst (λ o. Holds o y) (one_value _ _ values refl later.2) (elim (on_line p more x y rise on) [
      | inl before ↦ (
          let first = has.first p.x before.0 in
          hull_left front later.0 y (subst (λ o. Holds o y) (ap (value_of_point p) (sym first.1)) (at_point p.y y (itself y p.y before.1))))
      | inr there ↦ hull_right front later.0 y (from_holds part p more x y later.0 rise has there later.1)
    ])

-- ---- values below 0 count as 0
low_by : (x : Rational) (m : Bool) (y : Rational) (b : Bool) → less x zero ≡ b → IsAbove (end.Bound x m) y → IsAbove (cond b (end.Bound zero false) (end.Bound x m)) (greater_of zero y)
low_by x m y true is h = (order-greater zero y).0
low_by x true y false is h = order-below_at_most x y _ h (order-greater zero y).1
low_by x false y false is h = order-transitive x y _ h (order-greater zero y).1

low_holds : (low : Bound) (y : Rational) → IsAbove low y → IsAbove (clamped_low low) (greater_of zero y)
low_holds end.NoBound y h = (order-greater zero y).0
low_holds (end.Bound x m) y h = low_by x m y (less x zero) refl h

greater_by : (y : Rational) (P : Rational → Type 0) (b : Bool) → P zero → P y → P (cond b y zero)
greater_by y P true one two = two
greater_by y P false one two = one

high_by : (x : Rational) (m : Bool) (y : Rational) (b : Bool) → less zero x ≡ b → IsBelow (end.Bound x m) y → IsBelow (cond b (end.Bound x m) (end.Bound zero false)) (greater_of zero y)
high_by x true y true is h = greater_by y (λ v. v <ℚ x) (less zero y) ((tests-less zero x).0 is) h
high_by x false y true is h = greater_by y (λ v. v ≤ℚ x) (less zero y) (order-below_is_at_most zero x ((tests-less zero x).0 is)) h
high_by x m y false is h =
    greater_by y (λ v. v ≤ℚ zero) (less zero y) (order-reflexive zero) (order-transitive y x zero (below_at_least m x y h) ((tests-not_less zero x).0 is))

high_holds : (high : Bound) (y : Rational) → IsBelow high y → IsBelow (clamped_high high) (greater_of zero y)
high_holds end.NoBound y h = tt
high_holds (end.Bound x m) y h = high_by x m y (less zero x) refl h

clamped_holds : (values : Interval) (y : Rational) → IsTrue (lies_in values y) → IsTrue (lies_in (clamped values) (greater_of zero y))
clamped_holds values y h =
    let inner = (intervals-inside values y).0 h in
    inside_ends (clamped_low values.low) (clamped_high values.high) (greater_of zero y) (low_holds values.low y inner.above) (high_holds values.high y inner.below)

or_all : (r : Result (Option Interval) Overflow) (y : Rational) → ((values : Option Interval) → r ≡ Ok values → Holds values y) → IsTrue (lies_in (clamped_or_all r) (greater_of zero y))
or_all (Ok None) y h = absurd (h None refl)
or_all (Ok (Some values)) y h = clamped_holds values y (h (Some values) refl)
or_all (Err why) y h = inside_ends (end.Bound zero false) end.NoBound (greater_of zero y) (order-greater zero y).0 tt

pub table_holds : (part : Part) (points : List Point) (x y : Rational) → IsPointList points → HasX part x → IsTableValue points x y → IsTrue (lies_in (table_hull part points) y)
unfolding table_hull
table_holds part [] x y list has value = absurd (omega (arith, list.pointed))
table_holds part (p ∷ more) x y list has value =
    subst (λ v. IsTrue (lies_in (table_hull part (p ∷ more)) v)) (sym value.at_least_zero)
    (or_all (all_values part (p ∷ more)) value.line (λ values e. all_hold part p more x value.line values (rising p more list) has value.on_line e))
