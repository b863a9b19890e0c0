-- A table has exactly one value at each x, and it is computed where the steps fit.
use Rattle.std.proofs.Common.{◌≡◌, ℕ, suc, ◌+◌, Bool, true, false, Some, Result, Ok, Err}
use Rattle.std.proofs.Common.{List, [], ◌∷◌, length, inl, inr, refl, sym, ap, subst, ◌∙◌, arith}
use Rattle.std.proofs.Common.{cond}
use Rattle.std.specs.Prelude.{IsTrue, ◌↔◌, is_ok, slice_index_or}
use Rattle.std.specs.Prelude.{zero as nothing}
use Rattle.std.specs.List.{slice_get, AllAdjacentBelow}
use Rattle.exact_fraction.specs.Number.{Rational, zero, fits}
use Rattle.exact_fraction.specs.Order.{◌≤ℚ◌, ◌<ℚ◌, ◌=ℚ◌, less, greater_of}
use Rattle.exact_fraction.specs.Operations.{sum_of, difference_of, product_of, quotient_of, line_at}
use Rattle.exact_fraction.specs.Checked.{checked}
use Rattle.exact_fraction.specs.declared.error.Overflow.{Overflow}
use Rattle.exact_fraction.proofs.PublicLaws.{tells-checked, tests-not_less, tests-less}
use Rattle.exact_fraction.proofs.PublicLaws.{order-below_is_at_most, order-antisymmetric}
use Rattle.exact_fraction.proofs.PublicLaws.{order-same_is_at_most, order-below_at_most}
use Rattle.exact_fraction.proofs.PublicLaws.{order-below_transitive}
use Rattle.exact_fraction.proofs.PublicLaws.{order-reflexive, order-transitive, order-total}
use Rattle.rule_types.specs.declared.table.Point.{Point}
use Rattle.rule_types.specs.Tables.{IsPointList}
use Rattle.rule_meaning.specs.LineSteps.{LineStepsFit, TableStepsFit}
use Rattle.rule_meaning.specs.StraightLines.{between, line_from, at_least_zero, line_value}
use Rattle.rule_meaning.specs.StraightLines.{IsTableValue, IsOnLine, UpToFirst, AtPoint}
use Rattle.rule_meaning.specs.StraightLines.{Inside, FromLast}
use Rattle.rule_meaning.specs.CheckedSteps.{◌>>=◌}
use Rattle.rule_meaning.proofs.LineValues.{shifted}

-- ---- points that rise, one by one
abbrev Rise : Point → List Point → Type 0
Rise p [] = Unit {0}
Rise p (q ∷ more) = (p.x <ℚ q.x) × Rise q more

rise_from : (p : Point) (more : List Point)
    → AllAdjacentBelow (λ a b. a.x <ℚ b.x) (p ∷ more) (length (p ∷ more)) → Rise p more
rise_from p [] h = tt
rise_from p (q ∷ more) h = (
  h 0 p (omega arith),
  rise_from q more (λ k d k_in.
      (let next : suc k + 1 ≡ suc (k + 1) = omega arith in
      subst (λ i. (slice_index_or (q ∷ more) k d).x <ℚ (slice_index_or (p ∷ q ∷ more) i d).x) next
      (h (suc k) d (omega (arith, k_in))))),
)

-- a later point is past the first
first_below : (p : Point) (more : List Point) (place : ℕ) (a : Point) → Rise p more
    → slice_get more place ≡ Some a → p.x <ℚ a.x
first_below p [] place a h e = grind arith
first_below p (q ∷ more) nothing a h e =
    let same : q ≡ a = grind arith in subst (λ z. p.x <ℚ z.x) same h.0
first_below p (q ∷ more) (suc place) a h e =
    order-below_transitive p.x q.x a.x h.0 (first_below q more place a h.1 e)

first_at_most : (q : Point) (more : List Point) (place : ℕ) (a : Point) → Rise q more
    → slice_get (q ∷ more) place ≡ Some a → q.x ≤ℚ a.x
first_at_most q more nothing a h e =
    let same : q ≡ a = grind arith in subst (λ z. q.x ≤ℚ z.x) same (order-reflexive q.x)
first_at_most q more (suc place) a h e =
    order-below_is_at_most q.x a.x (first_below q more place a h e)

-- ---- the height of the line, without a bound on its steps
height : Point → List Point → Rational → Rational
height p [] x = p.y
height p (q ∷ more) x =
    cond (less p.x x) (cond (less x q.x) (line_at p.x p.y q.x q.y x) (height q more x)) p.y

low_height : (p : Point) (more : List Point) (x : Rational) → x ≤ℚ p.x → height p more x ≡ p.y
unfolding height
low_height p [] x h = refl
low_height p (q ∷ more) x h = rw ((tests-not_less p.x x).1 h) refl

inner_height : (p q : Point) (more : List Point) (x : Rational) → p.x <ℚ x → x <ℚ q.x
    → height p (q ∷ more) x ≡ line_at p.x p.y q.x q.y x
unfolding height
inner_height p q more x low high = rw ((tests-less p.x x).1 low, (tests-less x q.x).1 high) refl

later_height : (p q : Point) (more : List Point) (x : Rational) → p.x <ℚ x → q.x ≤ℚ x
    → height p (q ∷ more) x ≡ height q more x
unfolding height
later_height p q more x low high =
    rw ((tests-less p.x x).1 low, (tests-not_less x q.x).1 high) refl

-- the line at an x past the first of several points is that of the later points
abbrev IsHeight : Point → List Point → Rational → Rational → Type 0
IsHeight p more x y = y ≡ height p more x

past_first : (p q : Point) (more : List Point) (x y : Rational) → Rise p (q ∷ more) → q.x ≤ℚ x
    → IsHeight q more x y → IsHeight p (q ∷ more) x y
past_first p q more x y rise h e =
    e ∙ sym (later_height p q more x (order-below_at_most p.x q.x x rise.0 h) h)

at_height : (p : Point) (more : List Point) (place : ℕ) (a : Point) (x : Rational) → Rise p more
    → slice_get (p ∷ more) place ≡ Some a → x =ℚ a.x → IsHeight p more x a.y
at_height p more nothing a x rise is e =
    let same : p ≡ a = grind arith in
    let low : x ≤ℚ p.x = subst (λ z. x ≤ℚ z.x) (sym same) (order-same_is_at_most x a.x e).0 in
    ap (λ z. z.y) (sym same) ∙ sym (low_height p more x low)
at_height p [] (suc place) a x rise is e = grind arith
at_height p (q ∷ more) (suc place) a x rise is e =
    let past = order-transitive q.x a.x x (first_at_most q more place a rise.1 is)
    (order-same_is_at_most x a.x e).1 in
    past_first p q more x a.y rise past (at_height q more place a x rise.1 is e)

inside_height : (p : Point) (more : List Point) (place : ℕ) (a b : Point) (x : Rational)
    → Rise p more → slice_get (p ∷ more) place ≡ Some a → slice_get (p ∷ more) (suc place) ≡ Some b
    → a.x <ℚ x → x <ℚ b.x → IsHeight p more x (line_at a.x a.y b.x b.y x)
inside_height p [] place a b x rise is next low high = grind arith
inside_height p (q ∷ more) nothing a b x rise is next low high =
    let first : p ≡ a = grind arith in
    let second : q ≡ b = grind arith in
    let low' : p.x <ℚ x = subst (λ z. z.x <ℚ x) (sym first) low in
    let high' : x <ℚ q.x = subst (λ z. x <ℚ z.x) (sym second) high in
    ap (λ z. line_at z.x z.y b.x b.y x) (sym first)
    ∙ ap (λ z. line_at p.x p.y z.x z.y x) (sym second) ∙ sym (inner_height p q more x low' high')
inside_height p (q ∷ more) (suc place) a b x rise is next low high =
    let past = order-transitive q.x a.x x (first_at_most q more place a rise.1 is)
    (order-below_is_at_most a.x x low) in
    past_first p q more x (line_at a.x a.y b.x b.y x) rise past
    (inside_height q more place a b x rise.1 is next low high)

last_height : (p : Point) (more : List Point) (place : ℕ) (a : Point) (x : Rational) → Rise p more
    → slice_get (p ∷ more) place ≡ Some a → suc place ≡ length (p ∷ more) → a.x ≤ℚ x
    → IsHeight p more x a.y
unfolding height
last_height p [] nothing a x rise is last h =
    let same : p ≡ a = grind arith in ap (λ z. z.y) (sym same)
last_height p [] (suc place) a x rise is last h = grind arith
last_height p (q ∷ more) nothing a x rise is last h = absurd (omega (arith, last))
last_height p (q ∷ more) (suc place) a x rise is last h =
    let past = order-transitive q.x a.x x (first_at_most q more place a rise.1 is) h in
    past_first p q more x a.y rise past
    (last_height q more place a x rise.1 is (omega (arith, last)) h)

-- what is on the line is its height
on_height : (p : Point) (more : List Point) (x y : Rational) → Rise p more
    → IsOnLine (p ∷ more) x y → IsHeight p more x y
on_height p more x y rise (UpToFirst a is low e) =
    let same : p ≡ a = grind arith in
    let low' : x ≤ℚ p.x = subst (λ z. x ≤ℚ z.x) (sym same) low in
    e ∙ ap (λ z. z.y) (sym same) ∙ sym (low_height p more x low')
on_height p more x y rise (AtPoint place a is at e) = e ∙ at_height p more place a x rise is at
on_height p more x y rise (Inside place a b is next low high e) =
    e ∙ inside_height p more place a b x rise is next low high
on_height p more x y rise (FromLast place a is last low e) =
    e ∙ last_height p more place a x rise is last low

pub one_table_value : (points : List Point) (x y z : Rational) → IsPointList points
    → IsTableValue points x y → IsTableValue points x z → y ≡ z
one_table_value [] x y z fit h k = absurd (omega (arith, fit.pointed))
one_table_value (p ∷ more) x y z fit h k =
    let rise = rise_from p more fit.rising in
    let same = on_height p more x h.line rise h.on_line
    ∙ sym (on_height p more x k.line rise k.on_line) in
    h.at_least_zero ∙ ap (greater_of zero) same ∙ sym k.at_least_zero

-- ---- the height is on the line
height_by : (p q : Point) (more : List Point) (x : Rational) (b c : Bool) → less p.x x ≡ b
    → less x q.x ≡ c → p.x ≤ℚ x → (q.x ≤ℚ x → IsOnLine (q ∷ more) x (height q more x))
    → IsOnLine (p ∷ q ∷ more) x (cond b (cond c (line_at p.x p.y q.x q.y x) (height q more x)) p.y)
height_by p q more x false c is next h later =
    AtPoint 0 p refl (order-antisymmetric x p.x ((tests-not_less p.x x).0 is) h) refl
height_by p q more x true true is next h later =
    Inside 0 p q refl refl ((tests-less p.x x).0 is) ((tests-less x q.x).0 next) refl
height_by p q more x true false is next h later =
    let past = (tests-not_less x q.x).0 next in
    shifted p q more x (height q more x) past (later past)

height_from : (p : Point) (more : List Point) (x : Rational) → p.x ≤ℚ x
    → IsOnLine (p ∷ more) x (height p more x)
unfolding height
height_from p [] x h = FromLast 0 p refl refl h refl
height_from p (q ∷ more) x h =
    height_by p q more x (less p.x x) (less x q.x) refl refl h (λ past. height_from q more x past)

height_on : (p : Point) (more : List Point) (x : Rational) → IsOnLine (p ∷ more) x (height p more x)
height_on p more x = elim (order-total p.x x) [
  | inl h ↦ height_from p more x h
  | inr h ↦ (let low = order-below_is_at_most x p.x h in
      UpToFirst p refl low (low_height p more x low))
]

pub some_table_value : (points : List Point) (x : Rational) → IsPointList points
    → (y : Rational) × IsTableValue points x y
some_table_value [] x fit = absurd (omega (arith, fit.pointed))
some_table_value (p ∷ more) x fit = (
  greater_of zero (height p more x),
  record { line = height p more x; on_line = height_on p more x; at_least_zero = refl },
)

-- ---- where the steps fit
fit_step : {B : Type 0} (q : Rational) (next : Rational → Result B Overflow)
    → is_ok (checked q >>= next) ≡ true → (fits q ≡ true) × (is_ok (next q) ≡ true)
fit_step q next h = elim (tells-checked q) [
  | inl is ↦ (is.0, subst (λ r. is_ok (r >>= next) ≡ true) is.1 h)
  | inr is ↦ (let no : is_ok (Err (record {}) >>= next) ≡ true =
      subst (λ r. is_ok (r >>= next) ≡ true) is.1 h in grind arith)
]

step_fits : {B : Type 0} (q : Rational) (next : Rational → Result B Overflow) → fits q ≡ true
    → is_ok (next q) ≡ true → is_ok (checked q >>= next) ≡ true
step_fits q next e h = elim (tells-checked q) [
  | inl is ↦ subst (λ r. is_ok (r >>= next) ≡ true) (sym is.1) h
  | inr is ↦ (let no : true ≡ false = sym e ∙ is.0 in grind arith)
]

abbrev overflow : Result Rational Overflow
overflow = Err (record {})

last_fits : (q : Rational) → is_ok (checked q) ≡ true → fits q ≡ true
last_fits q h = elim (tells-checked q) [
  | inl is ↦ is.0
  | inr is ↦ (let no : is_ok overflow ≡ true = subst (λ r. is_ok r ≡ true) is.1 h in grind arith)
]

fits_last : (q : Rational) → fits q ≡ true → is_ok (checked q) ≡ true
fits_last q e = elim (tells-checked q) [
  | inl is ↦ ap is_ok is.1
  | inr is ↦ (let no : true ≡ false = sym e ∙ is.0 in grind arith)
]

between_fits : (p q : Point) (x : Rational) → is_ok (between p q x) ≡ true → LineStepsFit p q x
unfolding between
between_fits p q x h =
    let rise = difference_of q.y p.y in
    let way = difference_of x p.x in
    let run = difference_of q.x p.x in
    let product = product_of rise way in
    let quotient = quotient_of product run in
    let one = fit_step rise _ h in
    let two = fit_step way _ one.1 in
    let three = fit_step run _ two.1 in
    let four = fit_step product _ three.1 in
    let five = fit_step quotient _ four.1 in
    record {
      rise = one.0;
      way = two.0;
      run = three.0;
      product = four.0;
      quotient = five.0;
      sum = last_fits (sum_of p.y quotient) five.1;
    }

fits_between : (p q : Point) (x : Rational) → LineStepsFit p q x → is_ok (between p q x) ≡ true
unfolding between
fits_between p q x h =
    let rise = difference_of q.y p.y in
    let way = difference_of x p.x in
    let run = difference_of q.x p.x in
    let product = product_of rise way in
    let quotient = quotient_of product run in
    step_fits rise _ h.rise (step_fits way _ h.way (step_fits run _ h.run
    (step_fits product _ h.product (step_fits quotient _ h.quotient
    (fits_last (sum_of p.y quotient) h.sum)))))

inner_line : (p q : Point) (more : List Point) (x : Rational) → p.x <ℚ x → x <ℚ q.x
    → line_from p (q ∷ more) x ≡ between p q x
unfolding line_from
inner_line p q more x low high = rw ((tests-less p.x x).1 low, (tests-less x q.x).1 high) refl

later_line : (p q : Point) (more : List Point) (x : Rational) → p.x <ℚ x → q.x ≤ℚ x
    → line_from p (q ∷ more) x ≡ line_from q more x
unfolding line_from
later_line p q more x low high =
    rw ((tests-less p.x x).1 low, (tests-not_less x q.x).1 high) refl

ok_steps : (p : Point) (more : List Point) (place : ℕ) (a b : Point) (x : Rational) → Rise p more
    → is_ok (line_from p more x) ≡ true → slice_get (p ∷ more) place ≡ Some a
    → slice_get (p ∷ more) (suc place) ≡ Some b → a.x <ℚ x → x <ℚ b.x → LineStepsFit a b x
ok_steps p [] place a b x rise h is next low high = grind arith
ok_steps p (q ∷ more) nothing a b x rise h is next low high =
    let first : p ≡ a = grind arith in
    let second : q ≡ b = grind arith in
    let low' : p.x <ℚ x = subst (λ z. z.x <ℚ x) (sym first) low in
    let high' : x <ℚ q.x = subst (λ z. x <ℚ z.x) (sym second) high in
    let here = between_fits p q x (ap is_ok (sym (inner_line p q more x low' high')) ∙ h) in
    subst (λ z. LineStepsFit z b x) first (subst (λ z. LineStepsFit p z x) second here)
ok_steps p (q ∷ more) (suc place) a b x rise h is next low high =
    let past = order-transitive q.x a.x x (first_at_most q more place a rise.1 is)
    (order-below_is_at_most a.x x low) in
    let beyond = order-below_at_most p.x q.x x rise.0 past in
    ok_steps q more place a b x rise.1 (ap is_ok (sym (later_line p q more x beyond past)) ∙ h)
    is next low high

steps_by : (p q : Point) (more : List Point) (x : Rational) (b c : Bool) → less p.x x ≡ b
    → less x q.x ≡ c → TableStepsFit (p ∷ q ∷ more) x
    → (TableStepsFit (q ∷ more) x → is_ok (line_from q more x) ≡ true)
    → is_ok (cond b (cond c (between p q x) (line_from q more x)) (Ok p.y)) ≡ true
steps_by p q more x false c is next h later = refl
steps_by p q more x true true is next h later =
    fits_between p q x
    (h.steps 0 p q refl refl ((tests-less p.x x).0 is) ((tests-less x q.x).0 next))
steps_by p q more x true false is next h later =
    later (record {
      steps = λ place a b at_a at_b low high. h.steps (suc place) a b at_a at_b low high;
    })

steps_ok : (p : Point) (more : List Point) (x : Rational) → TableStepsFit (p ∷ more) x
    → is_ok (line_from p more x) ≡ true
unfolding line_from
steps_ok p [] x h = refl
steps_ok p (q ∷ more) x h =
    steps_by p q more x (less p.x x) (less x q.x) refl refl h (λ later. steps_ok q more x later)

clamp_ok : (r : Result Rational Overflow) → is_ok (at_least_zero r) ≡ is_ok r
clamp_ok (Ok y) = refl
clamp_ok (Err why) = refl

pub table_fits : (points : List Point) (x : Rational) → IsPointList points
    → IsTrue (is_ok (line_value points x)) ↔ TableStepsFit points x
unfolding line_value
table_fits [] x fit = absurd (omega (arith, fit.pointed))
table_fits (p ∷ more) x fit =
    let same = clamp_ok (line_from p more x) in (
      λ h. record {
        steps = λ place a b is next low high.
            ok_steps p more place a b x (rise_from p more fit.rising) (sym same ∙ h)
            is next low high;
      },
      λ h. same ∙ steps_ok p more x h,
    )
