-- What a window says of all seconds of a run.
use Rattle.std.proofs.Common.{◌≡◌, ℕ, zero, suc, ◌≤◌, Bool, true, false, cond, not, Option, Some, None}
use Rattle.std.proofs.Common.{ℤ, pos, ◌+ℤ◌, ◌-ℤ◌, ◌≤ℤ◌, refl, sym, ap, ap₂, subst, ◌∙◌, arith, ◌⊎◌, inl, inr}
use Rattle.std.specs.Prelude.{◌&&◌, ◌||◌, int_lt, unsigned_abs}
use Rattle.std.specs.Int.{int_rem_euclid}
use Rattle.std.proofs.lemmas.Int.{ints}
use Rattle.exact_fraction.specs.Number.{Rational}
use Rattle.rule_types.specs.declared.condition.Condition.{Condition}
use Rattle.rule_types.specs.declared.key.ClockAttr.{ClockAttr}
use Rattle.rule_types.specs.declared.key.ClockAttr.TheVariants.{Time, Date, Month, Day}
use Rattle.rule_types.specs.declared.key.ClockAttr.TheVariants.{ClockTime, DayOfYear}
use Rattle.rule_meaning.specs.Clock.{day_of, clock_value}
use Rattle.rule_meaning.specs.Condition.{meets}
use Rattle.rule_meaning.proofs.PublicLaws.{day_seconds-whole, day_seconds-bounds}
use Rattle.rule_meaning.proofs.PublicLaws.{one_day-date, one_day-month, one_day-week_day, one_day-year_day}
use Rattle.clock_values.specs.Seconds.{passes_throughout, passes_nowhere}
use Rattle.clock_values.specs.declared.window.Window.{Window}
use Rattle.clock_values.specs.Windows.{lies_in, window_holds, window_of}
use Rattle.clock_values.specs.internal.Runs.{all_lie_in, none_lies_in}
use Rattle.clock_values.specs.internal.Runs.{all_in_window, none_in_window}
use Rattle.clock_values.proofs.WindowTells.{hours_tell}

-- ---- one window
and_by : (a b c : Bool) → (a ≡ true → b ≡ c) → (a && b) ≡ (a && c)
and_by true b c h = h refl
and_by false b c h = refl

all_step : (low t : ℤ) (high : Option ℤ) (n : ℕ)
    → all_lie_in low high t (t +ℤ pos (suc n))
    ≡ (all_lie_in low high t (t +ℤ pos n) && lies_in low high (t +ℤ pos (suc n)))
all_step low t None n = by_test (int_lt t low) (int_lt (t +ℤ pos (suc n)) low) refl refl
  where
    by_test : (a b : Bool) → int_lt t low ≡ a → int_lt (t +ℤ pos (suc n)) low ≡ b
        → (not a && true) ≡ ((not a && true) && (not b && true))
    by_test true b e f = refl
    by_test false false e f = refl
    by_test false true e f = absurd (omega (arith, ints, e, f))
all_step low t (Some high) n =
    by_test (int_lt t low) (int_lt (t +ℤ pos (suc n)) low) (int_lt (t +ℤ pos n) high) (int_lt (t +ℤ pos (suc n)) high) refl refl refl refl
  where
    by_test : (a b c d : Bool) → int_lt t low ≡ a → int_lt (t +ℤ pos (suc n)) low ≡ b
        → int_lt (t +ℤ pos n) high ≡ c → int_lt (t +ℤ pos (suc n)) high ≡ d
        → (not a && d) ≡ ((not a && c) && (not b && d))
    by_test true b c d e f g h = refl
    by_test false true c d e f g h = absurd (omega (arith, ints, e, f))
    by_test false false true d e f g h = refl
    by_test false false false false e f g h = refl
    by_test false false false true e f g h = absurd (omega (arith, ints, g, h))

none_step : (low t : ℤ) (high : Option ℤ) (n : ℕ)
    → none_lies_in low high t (t +ℤ pos (suc n))
    ≡ (none_lies_in low high t (t +ℤ pos n) && not (lies_in low high (t +ℤ pos (suc n))))
none_step low t None n = by_test (int_lt (t +ℤ pos n) low) (int_lt (t +ℤ pos (suc n)) low) refl refl
  where
    by_test : (a b : Bool) → int_lt (t +ℤ pos n) low ≡ a → int_lt (t +ℤ pos (suc n)) low ≡ b
        → b ≡ (a && not (not b && true))
    by_test true true e f = refl
    by_test true false e f = refl
    by_test false false e f = refl
    by_test false true e f = absurd (omega (arith, ints, e, f))
none_step low t (Some high) n =
    by_test (int_lt (t +ℤ pos n) low) (int_lt (t +ℤ pos (suc n)) low) (int_lt t high) (int_lt low high) (int_lt (t +ℤ pos (suc n)) high) refl refl refl refl refl
  where
    by_test : (a b c d f : Bool) → int_lt (t +ℤ pos n) low ≡ a → int_lt (t +ℤ pos (suc n)) low ≡ b
        → int_lt t high ≡ c → int_lt low high ≡ d → int_lt (t +ℤ pos (suc n)) high ≡ f
        → (b || (not c || not d)) ≡ ((a || (not c || not d)) && not (not b && f))
    by_test true true c d f p q r s u = refl
    by_test false true c d f p q r s u = absurd (omega (arith, ints, p, q))
    by_test true false false d true p q r s u = absurd (omega (arith, ints, r, u))
    by_test true false false d false p q r s u = refl
    by_test true false true true true p q r s u = refl
    by_test true false true true false p q r s u = absurd (omega (arith, ints, p, q, r, s, u))
    by_test true false true false true p q r s u = absurd (omega (arith, ints, p, q, r, s, u))
    by_test true false true false false p q r s u = refl
    by_test false false false d true p q r s u = absurd (omega (arith, ints, r, u))
    by_test false false false d false p q r s u = refl
    by_test false false true true f p q r s u = refl
    by_test false false true false true p q r s u = absurd (omega (arith, ints, p, q, r, s, u))
    by_test false false true false false p q r s u = refl

none_first : (low t : ℤ) (high : Option ℤ) → none_lies_in low high t t ≡ not (lies_in low high t)
none_first low t None = by_test (int_lt t low)
  where
    by_test : (a : Bool) → a ≡ not (not a && true)
    by_test true = refl
    by_test false = refl
none_first low t (Some high) = by_test (int_lt t low) (int_lt t high) (int_lt low high) refl refl refl
  where
    by_test : (a b c : Bool) → int_lt t low ≡ a → int_lt t high ≡ b → int_lt low high ≡ c
        → (a || (not b || not c)) ≡ not (not a && b)
    by_test true b c e f g = refl
    by_test false false c e f g = refl
    by_test false true true e f g = refl
    by_test false true false e f g = absurd (omega (arith, ints, e, f, g))

none_added : (t : ℤ) → t +ℤ pos 0 ≡ t
none_added t = omega (arith, ints)

all_lie : (low t : ℤ) (high : Option ℤ) (n : ℕ)
    → all_lie_in low high t (t +ℤ pos n) ≡ passes_throughout (lies_in low high) t n
unfolding passes_throughout
all_lie low t high zero = ap (all_lie_in low high t) (none_added t)
all_lie low t high (suc n) =
    all_step low t high n ∙ ap (λ b. b && lies_in low high (t +ℤ pos (suc n))) (all_lie low t high n)

none_lie : (low t : ℤ) (high : Option ℤ) (n : ℕ)
    → none_lies_in low high t (t +ℤ pos n) ≡ passes_nowhere (lies_in low high) t n
unfolding passes_nowhere
none_lie low t high zero = ap (none_lies_in low high t) (none_added t) ∙ none_first low t high
none_lie low t high (suc n) =
    none_step low t high n ∙ ap (λ b. b && not (lies_in low high (t +ℤ pos (suc n)))) (none_lie low t high n)

-- ---- a test and its contrary
not_not : (b : Bool) → b ≡ not (not b)
not_not true = refl
not_not false = refl

contrary_throughout : (test : ℤ → Bool) (t : ℤ) (n : ℕ)
    → passes_nowhere test t n ≡ passes_throughout (λ s. not (test s)) t n
unfolding passes_throughout passes_nowhere
contrary_throughout test t zero = refl
contrary_throughout test t (suc n) =
    ap (λ b. b && not (test (t +ℤ pos (suc n)))) (contrary_throughout test t n)

contrary_nowhere : (test : ℤ → Bool) (t : ℤ) (n : ℕ)
    → passes_throughout test t n ≡ passes_nowhere (λ s. not (test s)) t n
unfolding passes_throughout passes_nowhere
contrary_nowhere test t zero = not_not (test t)
contrary_nowhere test t (suc n) =
    ap₂ (λ a b. a && b) (contrary_nowhere test t n) (not_not (test (t +ℤ pos (suc n))))

window_all : (w : Window) (t : ℤ) (n : ℕ)
    → all_in_window w t (t +ℤ pos n) ≡ passes_throughout (window_holds w) t n
unfolding all_in_window window_holds
window_all w t n = by_side w.inside
  where
    by_side : (b : Bool)
        → cond b (all_lie_in w.low w.high t (t +ℤ pos n)) (none_lies_in w.low w.high t (t +ℤ pos n))
        ≡ passes_throughout (λ s. cond b (lies_in w.low w.high s) (not (lies_in w.low w.high s))) t n
    by_side true = all_lie w.low t w.high n
    by_side false = none_lie w.low t w.high n ∙ contrary_throughout (lies_in w.low w.high) t n

window_none : (w : Window) (t : ℤ) (n : ℕ)
    → none_in_window w t (t +ℤ pos n) ≡ passes_nowhere (window_holds w) t n
unfolding none_in_window window_holds
window_none w t n = by_side w.inside
  where
    by_side : (b : Bool)
        → cond b (none_lies_in w.low w.high t (t +ℤ pos n)) (all_lie_in w.low w.high t (t +ℤ pos n))
        ≡ passes_nowhere (λ s. cond b (lies_in w.low w.high s) (not (lies_in w.low w.high s))) t n
    by_side true = none_lie w.low t w.high n
    by_side false = all_lie w.low t w.high n ∙ contrary_nowhere (lies_in w.low w.high) t n

-- ---- tests that agree at each second of two runs
module _ (test other : ℤ → Bool) (t u : ℤ) where
  throughout_alike : (n : ℕ) → ((k : ℕ) → k ≤ n → test (t +ℤ pos k) ≡ other (u +ℤ pos k))
      → passes_throughout test t n ≡ passes_throughout other u n
  unfolding passes_throughout
  throughout_alike zero h = ap test (sym (none_added t)) ∙ h 0 (omega arith) ∙ ap other (none_added u)
  throughout_alike (suc n) h =
      ap₂ (λ a b. a && b) (throughout_alike n (λ k l. h k (omega arith))) (h (suc n) (omega arith))

  nowhere_alike : (n : ℕ) → ((k : ℕ) → k ≤ n → test (t +ℤ pos k) ≡ other (u +ℤ pos k))
      → passes_nowhere test t n ≡ passes_nowhere other u n
  unfolding passes_nowhere
  nowhere_alike zero h = ap not (ap test (sym (none_added t)) ∙ h 0 (omega arith) ∙ ap other (none_added u))
  nowhere_alike (suc n) h =
      ap₂ (λ a b. a && b) (nowhere_alike n (λ k l. h k (omega arith))) (ap not (h (suc n) (omega arith)))

twice : (b : Bool) → b ≡ (b && b)
twice true = refl
twice false = refl

constant_throughout : (test : ℤ → Bool) (t : ℤ) (n : ℕ) → ((k : ℕ) → k ≤ n → test (t +ℤ pos k) ≡ test t)
    → test t ≡ passes_throughout test t n
unfolding passes_throughout
constant_throughout test t zero h = refl
constant_throughout test t (suc n) h =
    twice (test t)
    ∙ ap₂ (λ a b. a && b) (constant_throughout test t n (λ k l. h k (omega arith))) (sym (h (suc n) (omega arith)))

constant_nowhere : (test : ℤ → Bool) (t : ℤ) (n : ℕ) → ((k : ℕ) → k ≤ n → test (t +ℤ pos k) ≡ test t)
    → not (test t) ≡ passes_nowhere test t n
unfolding passes_nowhere
constant_nowhere test t zero h = refl
constant_nowhere test t (suc n) h =
    twice (not (test t))
    ∙ ap₂ (λ a b. a && b) (constant_nowhere test t n (λ k l. h k (omega arith))) (ap not (sym (h (suc n) (omega arith))))

-- ---- the clock
abbrev pub truth : Condition → Rational → ClockAttr → Rational → ℤ → ℤ → Bool
truth c step attribute q start second = meets c step (clock_value attribute start second) q

module _ (c : Condition) (step q : Rational) (start from : ℤ) where
  time_truth : (k : ℕ)
      → truth c step Time q start (from +ℤ pos k)
      ≡ window_holds (window_of c step q) ((from -ℤ start) +ℤ pos k)
  unfolding clock_value
  time_truth k =
      let same : (from +ℤ pos k) -ℤ start ≡ (from -ℤ start) +ℤ pos k = omega (arith, ints) in
      hours_tell c step q ((from +ℤ pos k) -ℤ start) ∙ ap (window_holds (window_of c step q)) same

  pub time_all : (to : ℤ) → from ≤ℤ to
      → all_in_window (window_of c step q) (from -ℤ start) (to -ℤ start)
      ≡ passes_throughout (truth c step Time q start) from (unsigned_abs (to -ℤ from))
  time_all to h =
      let n = unsigned_abs (to -ℤ from) in
      let end : to -ℤ start ≡ (from -ℤ start) +ℤ pos n = omega (arith, ints, h) in
      ap (all_in_window (window_of c step q) (from -ℤ start)) end
      ∙ window_all (window_of c step q) (from -ℤ start) n
      ∙ sym (throughout_alike (truth c step Time q start) (window_holds (window_of c step q)) from (from -ℤ start) n (λ k l. time_truth k))

  pub time_none : (to : ℤ) → from ≤ℤ to
      → none_in_window (window_of c step q) (from -ℤ start) (to -ℤ start)
      ≡ passes_nowhere (truth c step Time q start) from (unsigned_abs (to -ℤ from))
  time_none to h =
      let n = unsigned_abs (to -ℤ from) in
      let end : to -ℤ start ≡ (from -ℤ start) +ℤ pos n = omega (arith, ints, h) in
      ap (none_in_window (window_of c step q) (from -ℤ start)) end
      ∙ window_none (window_of c step q) (from -ℤ start) n
      ∙ sym (nowhere_alike (truth c step Time q start) (window_holds (window_of c step q)) from (from -ℤ start) n (λ k l. time_truth k))

-- the seconds of one day
same_day : (from to second : ℤ) → day_of from ≡ day_of to → from ≤ℤ second → second ≤ℤ to
    → day_of second ≡ day_of from
same_day from to second e h k =
    let a = day_seconds-whole from in let b = day_seconds-bounds from in
    let c = day_seconds-whole to in let d = day_seconds-bounds to in
    let p = day_seconds-whole second in let r = day_seconds-bounds second in
    omega (arith, ints, a, b.0, b.1, c, d.0, d.1, p, r.0, r.1, e, h, k)

later_rest : (from : ℤ) (k : ℕ) → day_of (from +ℤ pos k) ≡ day_of from
    → int_rem_euclid (from +ℤ pos k) (pos 86400) ≡ int_rem_euclid from (pos 86400) +ℤ pos k
later_rest from k e =
    omega (arith, ints, day_seconds-whole from, day_seconds-whole (from +ℤ pos k), e)

module _ (c : Condition) (step q : Rational) (start from to : ℤ) (e : day_of from ≡ day_of to) (h : from ≤ℤ to) where
  abbrev count : ℕ
  count = unsigned_abs (to -ℤ from)

  within : (k : ℕ) → k ≤ count → day_of (from +ℤ pos k) ≡ day_of from
  within k l = same_day from to (from +ℤ pos k) e (omega (arith, ints)) (omega (arith, ints, h, l))

  clock_truth : (k : ℕ) → k ≤ count
      → truth c step ClockTime q start (from +ℤ pos k)
      ≡ window_holds (window_of c step q) (int_rem_euclid from (pos 86400) +ℤ pos k)
  unfolding clock_value
  clock_truth k l =
      hours_tell c step q (int_rem_euclid (from +ℤ pos k) (pos 86400))
      ∙ ap (window_holds (window_of c step q)) (later_rest from k (within k l))

  end : int_rem_euclid to (pos 86400) ≡ int_rem_euclid from (pos 86400) +ℤ pos count
  end = omega (arith, ints, day_seconds-whole from, day_seconds-whole to, e, h)

  pub clock_all : all_in_window (window_of c step q) (int_rem_euclid from (pos 86400)) (int_rem_euclid to (pos 86400))
      ≡ passes_throughout (truth c step ClockTime q start) from count
  clock_all =
      ap (all_in_window (window_of c step q) (int_rem_euclid from (pos 86400))) end
      ∙ window_all (window_of c step q) (int_rem_euclid from (pos 86400)) count
      ∙ sym (throughout_alike (truth c step ClockTime q start) (window_holds (window_of c step q)) from (int_rem_euclid from (pos 86400)) count clock_truth)

  pub clock_none : none_in_window (window_of c step q) (int_rem_euclid from (pos 86400)) (int_rem_euclid to (pos 86400))
      ≡ passes_nowhere (truth c step ClockTime q start) from count
  clock_none =
      ap (none_in_window (window_of c step q) (int_rem_euclid from (pos 86400))) end
      ∙ window_none (window_of c step q) (int_rem_euclid from (pos 86400)) count
      ∙ sym (nowhere_alike (truth c step ClockTime q start) (window_holds (window_of c step q)) from (int_rem_euclid from (pos 86400)) count clock_truth)

  -- an attribute that is the same throughout a day
  pub constant_all : (attribute : ClockAttr)
      → ((a b : ℤ) → day_of a ≡ day_of b → clock_value attribute start a ≡ clock_value attribute start b)
      → meets c step (clock_value attribute start from) q
      ≡ passes_throughout (truth c step attribute q start) from count
  constant_all attribute same =
      constant_throughout (truth c step attribute q start) from count
      (λ k l. ap (λ x. meets c step x q) (same (from +ℤ pos k) from (within k l)))

  pub constant_none : (attribute : ClockAttr)
      → ((a b : ℤ) → day_of a ≡ day_of b → clock_value attribute start a ≡ clock_value attribute start b)
      → not (meets c step (clock_value attribute start from) q)
      ≡ passes_nowhere (truth c step attribute q start) from count
  constant_none attribute same =
      constant_nowhere (truth c step attribute q start) from count
      (λ k l. ap (λ x. meets c step x q) (same (from +ℤ pos k) from (within k l)))

-- DATE, MONTH, DAY and DAYOFYEAR
abbrev pub IsOfDay : ClockAttr → Type 0
IsOfDay attribute = (attribute ≡ Date) ⊎ ((attribute ≡ Month) ⊎ ((attribute ≡ Day) ⊎ (attribute ≡ DayOfYear)))

pub one_value : (attribute : ClockAttr) (start a b : ℤ) → IsOfDay attribute → day_of a ≡ day_of b
    → clock_value attribute start a ≡ clock_value attribute start b
one_value attribute start a b (inl e) h =
    subst (λ x. clock_value x start a ≡ clock_value x start b) (sym e) (one_day-date start a b h)
one_value attribute start a b (inr (inl e)) h =
    subst (λ x. clock_value x start a ≡ clock_value x start b) (sym e) (one_day-month start a b h)
one_value attribute start a b (inr (inr (inl e))) h =
    subst (λ x. clock_value x start a ≡ clock_value x start b) (sym e) (one_day-week_day start a b h)
one_value attribute start a b (inr (inr (inr e))) h =
    subst (λ x. clock_value x start a ≡ clock_value x start b) (sym e) (one_day-year_day start a b h)
