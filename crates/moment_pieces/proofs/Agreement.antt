-- Where pieces begin: the numbers that are collected are those of the definition.
use Rattle.std.proofs.Common.{◌≡◌, ℕ, zero, suc, ◌+◌, ◌-◌, ◌/◌, ◌%◌, ◌≤◌, Bool, true, false, cond, not}
use Rattle.std.proofs.Common.{List, [], ◌∷◌, ◌++◌, Option, Some, None, ℤ, pos, ◌+ℤ◌, ◌-ℤ◌, ◌*ℤ◌, refl, sym, ap, ap₂, ◌∙◌, arith}
use Rattle.std.specs.Prelude.{◌==◌, ◌&&◌, ◌||◌, nat_le, unsigned_abs, slice_get, All, int_lt}
use Rattle.std.specs.List.{list_any, cons_option}
use Rattle.std.specs.Int.{int_rem_euclid}
use Rattle.std.specs.Ordering.{int_eq}
use Rattle.std.proofs.lemmas.Bool.Decides.{nat_tests}
use Rattle.std.proofs.lemmas.Int.{ints}
use Rattle.exact_fraction.specs.Number.{Rational}
use Rattle.rule_types.specs.declared.condition.Condition.{Condition}
use Rattle.rule_types.specs.declared.condition.Side.{Side}
use Rattle.rule_types.specs.declared.condition.Side.TheVariants as side
use Rattle.rule_types.specs.declared.condition.Right.{Right}
use Rattle.rule_types.specs.declared.condition.Right.TheVariants as right
use Rattle.rule_types.specs.declared.key.ClockAttr.{ClockAttr}
use Rattle.rule_types.specs.declared.key.ClockAttr.TheVariants.{Time, Date, Month, Day}
use Rattle.rule_types.specs.declared.key.ClockAttr.TheVariants.{ClockTime, DayOfYear}
use Rattle.rule_types.specs.declared.key.Key.TheVariants.{Object, Clock}
use Rattle.rule_types.specs.declared.rule.Rule.{Rule}
use Rattle.rule_types.specs.declared.rules.Rules.{Rules}
use Rattle.rule_types.specs.WellFormed.{WellFormed}
use Rattle.rule_meaning.specs.Clock.{day_of, clock_value}
use Rattle.rule_meaning.specs.Condition.{hours_of_step, meets, second_truth}
use Rattle.rule_meaning.proofs.PublicLaws.{day_seconds-day_at, day_seconds-time_at}
use Rattle.rule_meaning.proofs.PublicLaws.{one_day-date, one_day-month, one_day-week_day, one_day-year_day}
use Rattle.moment_pieces.specs.Pieces.{is_midnight, truth_changes, sides_change}
use Rattle.moment_pieces.specs.Pieces.{condition_changes, rule_changes, begins_piece, later_firsts}
use Rattle.moment_pieces.specs.Pieces.{piece_firsts, IsCuts}
use Rattle.moment_pieces.proofs.Collected.{no_cuts}
use Rattle.moment_pieces.specs.declared.spans.Span.{Span}
use Rattle.moment_pieces.specs.declared.starts.Starts.{Starts}
use Rattle.moment_pieces.specs.declared.turns.Scale.{Scale}
use Rattle.clock_values.specs.Windows.{differs, window_holds, window_of, window_turns}
use Rattle.moment_pieces.specs.internal.Turns.{stands_in, value_turns, sides_turn, condition_turns, rule_turns}
use Rattle.moment_pieces.specs.Sides.{side_of}
use Rattle.rule_types.specs.declared.names.NameDef.{NameDef}
use Rattle.rule_meaning.specs.SomeRules.{rules_at}
use Rattle.moment_pieces.specs.internal.Turns.{used_turn, HalfStepFits}
use Rattle.moment_pieces.specs.internal.Starts.{begins}
use Rattle.moment_pieces.specs.internal.Spans.{day_scale, run_scale, AreStarts, IsRunOf, begins_at}
use Rattle.moment_pieces.specs.internal.Spans.{firsts_from}
use Rattle.clock_values.proofs.PublicLaws.{windows-holds, windows-turns}
use Rattle.moment_pieces.proofs.WholeTests.{eq_is, eq_not}

-- the scale of a run
abbrev scale_with : Rational → ℕ → ℤ → Scale
scale_with hours limit shift = record { daily = false; step = hours; shift = shift; limit = limit }

-- ---- lists of tests
either : (a b c d : Bool) → ((a || b) || (c || d)) ≡ ((a || c) || (b || d))
either true b c d = refl
either false true true d = refl
either false true false d = refl
either false false c d = refl

any_either : {A : Type 0} (p q r : A → Bool) (xs : List A) → ((x : A) → p x ≡ (q x || r x))
    → list_any p xs ≡ (list_any q xs || list_any r xs)
any_either p q r [] h = refl
any_either p q r (x ∷ xs) h =
    ap₂ (λ a b. a || b) (h x) (any_either p q r xs h)
    ∙ either (q x) (r x) (list_any q xs) (list_any r xs)

-- a test of the rule of a number, if there is one
abbrev pub by_rule : (Rule → Bool) → Option Rule → Bool
by_rule test None = false
by_rule test (Some rule) = test rule

any_found : (test : Rule → Bool) (found : Option Rule) (others : List Rule) (rest : Bool)
    → list_any test others ≡ rest
    → list_any test (cons_option found others) ≡ (by_rule test found || rest)
any_found test None others rest h = h
any_found test (Some rule) others rest h = ap (λ b. test rule || b) h

any_at : (test : Rule → Bool) (rules : List Rule) (used : List ℕ)
    → list_any test (rules_at rules used) ≡ list_any (λ number. by_rule test (slice_get rules number)) used
any_at test rules [] = refl
any_at test rules (number ∷ others) =
    any_found test (slice_get rules number) (rules_at rules others)
    (list_any (λ n. by_rule test (slice_get rules n)) others) (any_at test rules others)

-- ---- one second that is no midnight
differs_same : (a b : Bool) → a ≡ b → differs b a ≡ false
differs_same true b e = ap (λ x. differs x true) (sym e)
differs_same false b e = ap (λ x. differs x false) (sym e)

module _ (step : Rational) (start midnight day : ℤ) (m : ℕ) (e : midnight ≡ day *ℤ pos 86400)
    (inside : m % 86400 ≡ 0 → ⊥) where
  abbrev second : ℤ
  second = midnight +ℤ pos m

  abbrev before : ℤ
  before = (midnight +ℤ pos m) -ℤ pos 1

  before_is : before ≡ midnight +ℤ pos (m - 1)
  before_is = omega (arith, ints, inside)

  rest_here : int_rem_euclid second (pos 86400) ≡ pos (m % 86400)
  rest_here = day_seconds-time_at midnight day m e

  rest_before : int_rem_euclid before (pos 86400) ≡ pos (m % 86400) -ℤ pos 1
  rest_before =
      let number : (m - 1) % 86400 ≡ m % 86400 - 1 = omega (arith, inside) in
      let back : pos (m % 86400 - 1) ≡ pos (m % 86400) -ℤ pos 1 = omega (arith, ints, inside) in
      ap (λ t. int_rem_euclid t (pos 86400)) before_is ∙ day_seconds-time_at midnight day (m - 1) e
      ∙ ap pos number ∙ back

  day_before : day_of before ≡ day_of second
  day_before =
      let number : (m - 1) / 86400 ≡ m / 86400 = omega (arith, inside) in
      ap day_of before_is ∙ day_seconds-day_at midnight day (m - 1) e
      ∙ ap (λ n. day +ℤ pos n) number ∙ sym (day_seconds-day_at midnight day m e)

  module _ (c : Condition) (q : Rational) where
    time_turns : truth_changes c step Time q start second
        ≡ window_turns (window_of c (hours_of_step step) q) (pos m -ℤ (start -ℤ midnight))
    unfolding truth_changes second_truth clock_value
    time_turns =
        let w = window_of c (hours_of_step step) q in
        let at : second -ℤ start ≡ pos m -ℤ (start -ℤ midnight) = omega (arith, ints) in
        let last : before -ℤ start ≡ (pos m -ℤ (start -ℤ midnight)) -ℤ pos 1 = omega (arith, ints) in
        ap₂ differs
        (windows-holds c (hours_of_step step) q (second -ℤ start) ∙ ap (window_holds w) at)
        (windows-holds c (hours_of_step step) q (before -ℤ start) ∙ ap (window_holds w) last)
        ∙ windows-turns w (pos m -ℤ (start -ℤ midnight))

    clock_turns : truth_changes c step ClockTime q start second
        ≡ window_turns (window_of c (hours_of_step step) q) (pos (m % 86400) -ℤ pos 0)
    unfolding truth_changes second_truth clock_value
    clock_turns =
        let w = window_of c (hours_of_step step) q in
        let at : pos (m % 86400) ≡ pos (m % 86400) -ℤ pos 0 = omega (arith, ints) in
        ap₂ differs
        (windows-holds c (hours_of_step step) q (int_rem_euclid second (pos 86400)) ∙ ap (window_holds w) rest_here)
        (windows-holds c (hours_of_step step) q (int_rem_euclid before (pos 86400)) ∙ ap (window_holds w) rest_before)
        ∙ windows-turns w (pos (m % 86400))
        ∙ ap (window_turns w) at

    no_turn : (attribute : ClockAttr) → clock_value attribute start before ≡ clock_value attribute start second
        → truth_changes c step attribute q start second ≡ false
    unfolding truth_changes second_truth
    no_turn attribute same =
        differs_same (meets c (hours_of_step step) (clock_value attribute start before) q)
        (meets c (hours_of_step step) (clock_value attribute start second) q)
        (ap (λ v. meets c (hours_of_step step) v q) same)

  module _ (limit : ℕ) where
    abbrev run : Scale
    run = scale_with (hours_of_step step) limit (start -ℤ midnight)

    abbrev of_day : Scale
    of_day = day_scale (hours_of_step step)

    or_none : (b : Bool) → b ≡ (b || false)
    or_none true = refl
    or_none false = refl

    value_agrees : (c : Condition) (q : Rational) (attribute : ClockAttr)
        → truth_changes c step attribute q start second
        ≡ (sides_turn of_day c (m % 86400) (side.Key (Clock attribute)) (right.Value q)
        || sides_turn run c m (side.Key (Clock attribute)) (right.Value q))
    unfolding value_turns
    value_agrees c q Time = time_turns c q
    value_agrees c q Date = no_turn c q Date (one_day-date start before second day_before)
    value_agrees c q Month = no_turn c q Month (one_day-month start before second day_before)
    value_agrees c q Day = no_turn c q Day (one_day-week_day start before second day_before)
    value_agrees c q ClockTime = clock_turns c q ∙ or_none (window_turns (window_of c (hours_of_step step) q) (pos (m % 86400) -ℤ pos 0))
    value_agrees c q DayOfYear = no_turn c q DayOfYear (one_day-year_day start before second day_before)

    sides_agree : (c : Condition) (left : Side) (other : Right)
        → sides_change c step start second left other
        ≡ (sides_turn of_day c (m % 86400) left other || sides_turn run c m left other)
    sides_agree c (side.Key (Clock attribute)) (right.Value q) = value_agrees c q attribute
    sides_agree c (side.Key (Clock attribute)) (right.Key key) = refl
    sides_agree c (side.Key (Object object attribute)) (right.Value q) = refl
    sides_agree c (side.Key (Object object attribute)) (right.Key key) = refl
    sides_agree c (side.Expr name) (right.Value q) = refl
    sides_agree c (side.Expr name) (right.Key key) = refl

    module _ (names : List NameDef) where
      condition_agrees : (c : Condition)
          → condition_changes names step start second c
          ≡ (condition_turns names of_day (m % 86400) c || condition_turns names run m c)
      unfolding condition_changes condition_turns
      condition_agrees c = sides_agree c (side_of names c.left) c.right

      rule_agrees : (rule : Option Rule)
          → by_rule (rule_changes names step start second) rule
          ≡ (rule_turns names of_day (m % 86400) rule || rule_turns names run m rule)
      rule_agrees None = refl
      rule_agrees (Some rule) =
          any_either (condition_changes names step start second) (condition_turns names of_day (m % 86400))
          (condition_turns names run m) rule.conditions condition_agrees

    pub used_agree : (x : Rules) (used : List ℕ)
        → list_any (rule_changes x.names step start second) (rules_at x.rules used)
        ≡ (used_turn x used of_day (m % 86400) || used_turn x used run m)
    unfolding used_turn
    used_agree x used =
        any_at (rule_changes x.names step start second) x.rules used
        ∙ any_either (λ number. by_rule (rule_changes x.names step start second) (slice_get x.rules number))
        (λ number. rule_turns x.names of_day (m % 86400) (slice_get x.rules number))
        (λ number. rule_turns x.names run m (slice_get x.rules number))
        used (λ number. rule_agrees x.names (slice_get x.rules number))

-- ---- a number of a run
midnight_is : (midnight day : ℤ) (m : ℕ) → midnight ≡ day *ℤ pos 86400
    → is_midnight (midnight +ℤ pos m) ≡ (m % 86400 == 0)
unfolding is_midnight
midnight_is midnight day m e =
    ap (λ r. int_eq r (pos 0)) (day_seconds-time_at midnight day m e) ∙ by_test (m % 86400 == 0) refl
  where
    by_test : (b : Bool) → (m % 86400 == 0) ≡ b → int_eq (pos (m % 86400)) (pos 0) ≡ b
    by_test true f = eq_is (pos (m % 86400)) (pos 0) (ap pos (grind (arith, nat_tests)))
    by_test false f =
        let other : m % 86400 ≡ 0 → ⊥ = grind (arith, nat_tests) in
        eq_not (pos (m % 86400)) (pos 0) (λ k. other (ap unsigned_abs k))

joined : (z u r d s : Bool) → d ≡ (z || (u && true)) → s ≡ ((r && true) && not d)
    → (d || s) ≡ (z || (u || r))
joined true u r d s e f = ap (λ x. x || s) e
joined false true r d s e f = ap (λ x. x || s) e
joined false false true d s e f =
    ap₂ (λ x y. x || y) e (f ∙ ap not e)
joined false false false d s e f = ap₂ (λ x y. x || y) e f

shown_alike : (z u w : Bool) → (z ≡ false → u ≡ w) → (z || u) ≡ (z || w)
shown_alike true u w h = refl
shown_alike false u w h = h refl

module _ (x : Rules) (used : List ℕ) (step : Rational) (start from to : ℤ) (span : Span) (starts : Starts)
    (run_is : IsRunOf start from to span)
    (known : AreStarts x used (hours_of_step step) span starts) where
  abbrev scale_here : Scale
  scale_here = scale_with (hours_of_step step) span.last (start -ℤ span.midnight)

  same_scale : run_scale (hours_of_step step) span ≡ scale_here
  same_scale = ap (scale_with (hours_of_step step) span.last) run_is.start_is

  number_agrees : (m : ℕ) → m ≤ span.last
      → begins starts.daily.items starts.singles.items m
      ≡ begins_piece x used step start (span.midnight +ℤ pos m)
  unfolding begins begins_piece
  number_agrees m l =
      let small : nat_le (m % 86400) 86399 ≡ true = grind (arith, nat_tests) in
      let within : nat_le m span.last ≡ true = grind (arith, nat_tests) in
      let u = used_turn x used (day_scale (hours_of_step step)) (m % 86400) in
      let r = used_turn x used scale_here m in
      let daily = known.daily.is (m % 86400) ∙ ap (λ b. (m % 86400 == 0) || (u && b)) small in
      let single = known.is m
      ∙ ap (λ s. (used_turn x used s m && nat_le m span.last) && not (stands_in starts.daily.items (m % 86400))) same_scale
      ∙ ap (λ b. (r && b) && not (stands_in starts.daily.items (m % 86400))) within in
      joined (m % 86400 == 0) u r (stands_in starts.daily.items (m % 86400)) (stands_in starts.singles.items m) daily single
      ∙ shown_alike (m % 86400 == 0) (u || r)
      (list_any (rule_changes x.names step start (span.midnight +ℤ pos m)) (rules_at x.rules used))
      (λ k. let other : m % 86400 ≡ 0 → ⊥ = grind (arith, nat_tests) in
      sym (used_agree step start span.midnight (day_of from) m run_is.midnight other span.last x used))
      ∙ ap (λ b. b || list_any (rule_changes x.names step start (span.midnight +ℤ pos m)) (rules_at x.rules used))
      (sym (midnight_is span.midnight (day_of from) m run_is.midnight))

  abbrev B : ℤ → Bool
  B = begins_at starts.daily.items starts.singles.items span.midnight

  later_alike : (n : ℕ) → span.first + n ≤ span.last
      → later_firsts (begins_at starts.daily.items starts.singles.items span.midnight) span.from n
      ≡ later_firsts (begins_piece x used step start) span.from n
  unfolding later_firsts
  later_alike zero l = refl
  later_alike (suc n) l =
      let second = span.from +ℤ pos (suc n) in
      let number : unsigned_abs (second -ℤ span.midnight) ≡ span.first + suc n = omega (arith, ints, run_is.fits.from_is) in
      let back : span.midnight +ℤ pos (span.first + suc n) ≡ second = omega (arith, ints, run_is.fits.from_is) in
      let same : begins_at starts.daily.items starts.singles.items span.midnight second ≡ begins_piece x used step start second =
      ap (begins starts.daily.items starts.singles.items) number
      ∙ number_agrees (span.first + suc n) l
      ∙ ap (begins_piece x used step start) back in
      ap₂ (λ xs b. xs ++ cond b (second ∷ []) []) (later_alike n (omega arith)) same

  pub firsts_agree : int_lt to from ≡ false
      → firsts_from starts.daily.items starts.singles.items span ≡ piece_firsts x used step start from to
  unfolding firsts_from piece_firsts
  firsts_agree order =
      let order_of = run_is.fits.order in
      let count : unsigned_abs (to -ℤ from) ≡ span.last - span.first =
      omega (arith, ints, run_is.to_is, run_is.from_is, run_is.fits.from_is, order_of) in
      rw order (
      ap (λ xs. span.from ∷ xs) (later_alike (span.last - span.first) (omega (arith, order_of)))
      ∙ ap₂ (λ f n. f ∷ later_firsts (begins_piece x used step start) f n) run_is.from_is (sym count))

-- ---- what is asked for
pub half_steps_fit : (x : Rules) → WellFormed x → All (λ rule. All HalfStepFits rule.conditions) x.rules
half_steps_fit x w k d l =
    λ j c i. record { value = λ h. (((w.rules k d l).conditions j c i).half_step h).value }

-- ---- a run without a second
pub nothing_listed : (x : Rules) (used : List ℕ) (step : Rational) (start from to : ℤ) (most : ℕ) (firsts : List ℤ)
    → int_lt to from ≡ true → firsts ≡ []
    → IsCuts (piece_firsts x used step start from to) most (record { count = 0; firsts = firsts })
unfolding piece_firsts
nothing_listed x used step start from to most firsts order e = rw (order, e) (no_cuts most)
