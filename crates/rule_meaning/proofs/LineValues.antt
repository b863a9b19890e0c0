-- The value of a table is that of its straight line.
use Rattle.std.proofs.Common.{◌≡◌, suc, ◌<◌, Bool, true, false, Result, Ok, Err, List, [], ◌∷◌, length, inl, inr, refl, sym, ap, subst, ◌∙◌, arith, cond}
use Rattle.exact_fraction.specs.Number.{Rational, zero}
use Rattle.exact_fraction.specs.Order.{◌≤ℚ◌, less, greater_of}
use Rattle.exact_fraction.specs.Operations.{sum_of, difference_of, product_of, quotient_of, line_at}
use Rattle.exact_fraction.specs.Checked.{checked}
use Rattle.exact_fraction.specs.declared.error.Overflow.{Overflow}
use Rattle.exact_fraction.proofs.PublicLaws.{tells-checked, tests-not_less, tests-less, order-below_is_at_most, order-antisymmetric}
use Rattle.rule_types.specs.declared.table.Point.{Point}
use Rattle.rule_meaning.specs.CheckedSteps.{◌>>=◌}
use Rattle.rule_meaning.specs.StraightLines.{between, line_from, at_least_zero, line_value, IsOnLine, UpToFirst, AtPoint, Inside, FromLast, IsTableValue}

-- a step that fits goes on with its number
goes_on : {B : Type 0} (q : Rational) (next : Rational → Result B Overflow) (y : B) → (checked q >>= next) ≡ Ok y → next q ≡ Ok y
goes_on q next y h = elim (tells-checked q) [
  | inl is ↦ subst (λ r. (r >>= next) ≡ Ok y) is.1 h
  | inr is ↦ (let no : (Err (record {}) >>= next) ≡ Ok y = subst (λ r. (r >>= next) ≡ Ok y) is.1 h in grind arith)
]

is_checked : (q y : Rational) → checked q ≡ Ok y → y ≡ q
is_checked q y h = elim (tells-checked q) [
  | inl is ↦ (let e : Ok q ≡ Ok y = sym is.1 ∙ h in grind arith)
  | inr is ↦ (let no = sym is.1 ∙ h in grind arith)
]

between_is : (p q : Point) (x y : Rational) → between p q x ≡ Ok y → y ≡ line_at p.x p.y q.x q.y x
unfolding between
between_is p q x y h =
    let rise = difference_of q.y p.y in
    let from = difference_of x p.x in
    let run = difference_of q.x p.x in
    let product = product_of rise from in
    let quotient = quotient_of product run in
    is_checked (sum_of p.y quotient) y
    (goes_on quotient _ y (goes_on product _ y (goes_on run _ y (goes_on from _ y (goes_on rise _ y h)))))

-- what is on the line of the later points is on the line of all, from the second point on
pub shifted : (p q : Point) (more : List Point) (x y : Rational) → q.x ≤ℚ x → IsOnLine (q ∷ more) x y → IsOnLine (p ∷ q ∷ more) x y
shifted p q more x y h (UpToFirst a is low e) =
    let same : q ≡ a = grind arith in
    let low' : x ≤ℚ q.x = subst (λ z. x ≤ℚ z.x) (sym same) low in
    AtPoint 1 q refl (order-antisymmetric x q.x low' h) (e ∙ ap (λ z. z.y) (sym same))
shifted p q more x y h (AtPoint place a is at e) = AtPoint (suc place) a is at e
shifted p q more x y h (Inside place a b is next low high e) = Inside (suc place) a b is next low high e
shifted p q more x y h (FromLast place a is last low e) = FromLast (suc place) a is (omega (arith, last)) low e

from_by : (p q : Point) (more : List Point) (x y : Rational) (b c : Bool) → less p.x x ≡ b → less x q.x ≡ c → p.x ≤ℚ x → (q.x ≤ℚ x → line_from q more x ≡ Ok y → IsOnLine (q ∷ more) x y) → cond b (cond c (between p q x) (line_from q more x)) (Ok p.y) ≡ Ok y → IsOnLine (p ∷ q ∷ more) x y
from_by p q more x y false c is next h later e =
    let same : p.y ≡ y = grind arith in
    AtPoint 0 p refl (order-antisymmetric x p.x ((tests-not_less p.x x).0 is) h) (sym same)
from_by p q more x y true true is next h later e =
    Inside 0 p q refl refl ((tests-less p.x x).0 is) ((tests-less x q.x).0 next) (between_is p q x y e)
from_by p q more x y true false is next h later e =
    let past = (tests-not_less x q.x).0 next in
    shifted p q more x y past (later past e)

from_point : (p : Point) (more : List Point) (x y : Rational) → p.x ≤ℚ x → line_from p more x ≡ Ok y → IsOnLine (p ∷ more) x y
unfolding line_from
from_point p [] x y h e = let same : p.y ≡ y = grind arith in FromLast 0 p refl refl h (sym same)
from_point p (q ∷ more) x y h e =
    from_by p q more x y (less p.x x) (less x q.x) refl refl h (λ past next. from_point q more x y past next) e

up_to_by : (p : Point) (more : List Point) (x y : Rational) → x ≤ℚ p.x → less p.x x ≡ false → line_from p more x ≡ Ok y → IsOnLine (p ∷ more) x y
unfolding line_from
up_to_by p [] x y h is e = let same : p.y ≡ y = grind arith in UpToFirst p refl h (sym same)
up_to_by p (q ∷ more) x y h is e =
    let same : Ok p.y ≡ Ok y = subst (λ b. cond b (cond (less x q.x) (between p q x) (line_from q more x)) (Ok p.y) ≡ Ok y) is e in
    let at : p.y ≡ y = grind arith in
    UpToFirst p refl h (sym at)

on_line_by : (p : Point) (more : List Point) (x y : Rational) (b : Bool) → less p.x x ≡ b → line_from p more x ≡ Ok y → IsOnLine (p ∷ more) x y
on_line_by p more x y true is e = from_point p more x y (order-below_is_at_most p.x x ((tests-less p.x x).0 is)) e
on_line_by p more x y false is e = up_to_by p more x y ((tests-not_less p.x x).0 is) is e

table_by : (p : Point) (more : List Point) (x y : Rational) (r : Result Rational Overflow) → line_from p more x ≡ r → at_least_zero r ≡ Ok y → IsTableValue (p ∷ more) x y
table_by p more x y (Ok v) is e =
    let same : greater_of zero v ≡ y = grind arith in
    record { line = v; on_line = on_line_by p more x v (less p.x x) refl is; at_least_zero = sym same }
table_by p more x y (Err why) is e = grind arith

pub table_value : (points : List Point) (x y : Rational) → 0 < length points → line_value points x ≡ Ok y → IsTableValue points x y
unfolding line_value
table_value [] x y some e = absurd (omega (arith, some))
table_value (p ∷ more) x y some e = table_by p more x y (line_from p more x) refl e
