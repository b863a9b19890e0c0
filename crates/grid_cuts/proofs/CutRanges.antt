-- The first and the last cut of a range are its first and its last number.
use Rattle.std.proofs.Common.{◌≡◌, ℕ, zero, suc, ◌*◌, ◌-◌, ◌/◌, ◌%◌, ◌⊎◌, inl, inr, Bool, true, false, cond, not, ◌&&◌, List, [], ◌∷◌, ◌++◌, length, get_or, nat_eq, refl, sym, subst, ap, ◌∙◌, append_assoc, arith}
use Rattle.std.proofs.lemmas.List.Elements.{All-cons, All-head, All-nil, All-tail, filter-append}
use Rattle.std.specs.Prelude.{All, filter, filter_map, if◌then◌else◌, slice_get}
use Rattle.std.specs.List.{flat_map}
use Rattle.exact_fraction.specs.Number.{Rational, IsLowest}
use Rattle.exact_fraction.specs.Number.{zero as nothing}
use Rattle.exact_fraction.specs.Order.{◌<ℚ◌, ◌≤ℚ◌, less}
use Rattle.exact_fraction.proofs.PublicLaws.{lowest_terms-unique, order-antisymmetric, order-apart, order-below_at_most, tells-less, tests-not_less}
use Rattle.interval_sets.specs.declared.interval.Bound.{Bound}
use Rattle.interval_sets.specs.declared.interval.Bound.TheVariants as end
use Rattle.interval_sets.specs.declared.interval.Interval.{Interval}
use Rattle.interval_sets.specs.Intervals.{lies_in}
use Rattle.rule_types.specs.declared.key.Key.{Key}
use Rattle.rule_types.specs.declared.rules.Rules.{Rules}
use Rattle.verdict_meaning.specs.FitRanges.{AreEnds}
use Rattle.verdict_meaning.specs.declared.question.Question.{Question}
use Rattle.verdict_meaning.specs.Grids.{condition_cuts, cuts_of, end_numbers, inserted, limit_cuts, rising}
use Rattle.verdict_meaning.specs.Questions.{asked_numbers, asked_rules}
use Rattle.verdict_meaning.specs.Hulls.{closed}
use Rattle.grid_blocks.specs.GridBoxes.{cut_at, interval_of}
use Rattle.grid_cuts.specs.declared.key_range.KeyRange.{KeyRange}
use Rattle.grid_cuts.specs.internal.Additions.{Adds, asked_cuts, within}
use Rattle.grid_cuts.specs.internal.Gridded.{IsCutWhole, whole_of}
use Rattle.grid_cuts.proofs.AddedCuts.{asked_cuts_are}
use Rattle.grid_cuts.proofs.RisingCuts.{Rises, all_inserted, all_rising, rises}

-- ---- the first and the last number

pub BeginsWith : Rational → List Rational → Type 0
BeginsWith p [] = ⊥
BeginsWith p (r ∷ cuts) = r ≡ p

pub EndsWith : Rational → List Rational → Type 0
EndsWith q [] = ⊥
EndsWith q (r ∷ []) = r ≡ q
EndsWith q (r ∷ s ∷ cuts) = EndsWith q (s ∷ cuts)

ends_more : (q p : Rational) (cuts : List Rational) → EndsWith q cuts → EndsWith q (p ∷ cuts)
unfolding EndsWith
ends_more q p [] h = absurd h
ends_more q p (r ∷ cuts) h = h

-- the greatest number that is inserted becomes the last
none_above : (q p : Rational) (cuts : List Rational) → p ≡ q → q ≤ℚ p
    → All (λ r. r ≤ℚ q) cuts → All (λ r. p <ℚ r) cuts → EndsWith q (p ∷ cuts)
unfolding EndsWith
none_above q p [] is same most above = is
none_above q p (r ∷ cuts) is same most above =
    absurd
    (order-apart q p same
    (order-below_at_most p r q (All-head (λ s. p <ℚ s) r cuts above)
    (All-head (λ s. s ≤ℚ q) r cuts most)))

last_by : (q p : Rational) (cuts : List Rational) → IsLowest q → IsLowest p → less q p ≡ false
    → p ≤ℚ q → All (λ r. r ≤ℚ q) cuts → All (λ r. p <ℚ r) cuts
    → ((less p q ≡ true) × (p <ℚ q)) ⊎ ((less p q ≡ false) × (q ≤ℚ p))
    → EndsWith q (inserted q cuts)
    → EndsWith q
    (if less q p then q ∷ p ∷ cuts
    else (if less p q then p ∷ inserted q cuts else p ∷ cuts))
last_by q p cuts lowest other e at_most most above (inl below) later =
    rw (e, below.0) (ends_more q p (inserted q cuts) later)
last_by q p cuts lowest other e at_most most above (inr same) later =
    rw (e, same.0)
    (none_above q p cuts
    (lowest_terms-unique p q other lowest (order-antisymmetric p q at_most same.1)) same.1 most
    above)

last_inserted : (q : Rational) (cuts : List Rational) → IsLowest q → All IsLowest cuts
    → All (λ r. r ≤ℚ q) cuts → Rises cuts → EndsWith q (inserted q cuts)
unfolding inserted EndsWith Rises
last_inserted q [] lowest all most h = refl
last_inserted q (p ∷ cuts) lowest all most h =
    let at_most : p ≤ℚ q = All-head (λ r. r ≤ℚ q) p cuts most in
    last_by q p cuts lowest (All-head IsLowest p cuts all) ((tests-not_less q p).1 at_most) at_most
    (All-tail (λ r. r ≤ℚ q) p cuts most) h.0 (tells-less p q)
    (last_inserted q cuts lowest (All-tail IsLowest p cuts all)
    (All-tail (λ r. r ≤ℚ q) p cuts most) h.1)

-- the least number that is inserted becomes the first, and the last one stays
first_by : (p q r : Rational) (cuts : List Rational) → IsLowest p → IsLowest r → p ≤ℚ r
    → less r p ≡ false
    → ((less p r ≡ true) × (p <ℚ r)) ⊎ ((less p r ≡ false) × (r ≤ℚ p))
    → EndsWith q (r ∷ cuts)
    → BeginsWith p
    (if less p r then p ∷ r ∷ cuts
    else (if less r p then r ∷ inserted p cuts else r ∷ cuts))
    × EndsWith q
    (if less p r then p ∷ r ∷ cuts
    else (if less r p then r ∷ inserted p cuts else r ∷ cuts))
unfolding BeginsWith
first_by p q r cuts lowest other least e (inl below) last =
    rw below.0 (refl, ends_more q p (r ∷ cuts) last)
first_by p q r cuts lowest other least e (inr same) last =
    rw (same.0, e)
    (lowest_terms-unique r p other lowest (order-antisymmetric r p same.1 least), last)

first_inserted : (p q : Rational) (cuts : List Rational) → IsLowest p → All IsLowest cuts
    → All (λ r. p ≤ℚ r) cuts → EndsWith q cuts
    → BeginsWith p (inserted p cuts) × EndsWith q (inserted p cuts)
unfolding inserted EndsWith
first_inserted p q [] lowest all least last = absurd last
first_inserted p q (r ∷ cuts) lowest all least last =
    let at_least : p ≤ℚ r = All-head (λ s. p ≤ℚ s) r cuts least in
    first_by p q r cuts lowest (All-head IsLowest r cuts all) at_least
    ((tests-not_less r p).1 at_least) (tells-less p r) last

-- ---- the cuts of a range

-- what passes a test
keeps_by : {A : Type 0} (test : A → Bool) (x : A) (xs : List A) (t : Bool) → test x ≡ t
    → All (λ y. test y ≡ true) xs → All (λ y. test y ≡ true) (cond t (x ∷ xs) xs)
keeps_by test x xs true e all = All-cons (λ y. test y ≡ true) x xs e all
keeps_by test x xs false e all = all

passing : {A : Type 0} (test : A → Bool) (xs : List A)
    → All (λ y. test y ≡ true) (filter test xs)
passing test [] = All-nil (λ y. test y ≡ true)
passing test (x ∷ xs) = keeps_by test x (filter test xs) (test x) refl (passing test xs)

all_as : {A : Type 0} (P Q : A → Type 0) → ((x : A) → P x → Q x) → (xs : List A) → All P xs
    → All Q xs
all_as P Q f xs all = λ k d within. f (get_or xs k d) (all k d within)

both : (a b : Bool) → (not a && not b) ≡ true → (a ≡ false) × (b ≡ false)
both true b e = absurd (grind arith)
both false true e = absurd (grind arith)
both false false e = (refl, refl)

at_least_low : (p q r : Rational) → lies_in (closed p q) r ≡ true → p ≤ℚ r
at_least_low p q r e = (tests-not_less r p).0 (both (less r p) (less q r) e).0

at_most_high : (p q r : Rational) → lies_in (closed p q) r ≡ true → r ≤ℚ q
at_most_high p q r e = (tests-not_less q r).0 (both (less r p) (less q r) e).1

ends_of : (p q : Rational) (others : List Rational) → p ≤ℚ q
    → All IsLowest (p ∷ q ∷ others) → All (λ r. lies_in (closed p q) r ≡ true) others
    → BeginsWith p (rising (p ∷ q ∷ others)) × EndsWith q (rising (p ∷ q ∷ others))
unfolding rising
ends_of p q others order lowest inside =
    let more = All-tail IsLowest p (q ∷ others) lowest in
    let rest = all_rising IsLowest others (All-tail IsLowest q others more) in
    let least : All (λ r. p ≤ℚ r) (rising others) =
    all_rising (λ r. p ≤ℚ r) others
    (all_as (λ r. lies_in (closed p q) r ≡ true) (λ r. p ≤ℚ r) (at_least_low p q) others inside) in
    let most : All (λ r. r ≤ℚ q) (rising others) =
    all_rising (λ r. r ≤ℚ q) others
    (all_as (λ r. lies_in (closed p q) r ≡ true) (λ r. r ≤ℚ q) (at_most_high p q) others inside) in
    first_inserted p q (inserted q (rising others)) (All-head IsLowest p (q ∷ others) lowest)
    (all_inserted IsLowest q (rising others) (All-head IsLowest q others more) rest)
    (all_inserted (λ r. p ≤ℚ r) q (rising others) order least)
    (last_inserted q (rising others) (All-head IsLowest q others more) rest most (rises others))

-- ---- their run

last_at : (q : Rational) (cuts : List Rational) (k : ℕ) (d : Rational) → suc k ≡ length cuts
    → EndsWith q cuts → get_or cuts k d ≡ q
unfolding EndsWith
last_at q [] k d e last = absurd last
last_at q (r ∷ []) zero d e last = last
last_at q (r ∷ []) (suc k) d e last = absurd (omega (arith, e))
last_at q (r ∷ s ∷ cuts) zero d e last = absurd (omega (arith, e))
last_at q (r ∷ s ∷ cuts) (suc k) d e last = last_at q (s ∷ cuts) k d (omega (arith, e)) last

run_of : Rational → Bool → Rational → Bool → Interval
run_of p m q n = record { low = end.Bound p m; high = end.Bound q n }

run_is : (p q r s : Rational) (m n : Bool) → r ≡ p → m ≡ false → s ≡ q → n ≡ false
    → run_of r m s n ≡ closed p q
unfolding run_of
run_is p q r s m n e f g h = rw (e, f, g, h) refl

odd_by : (n : ℕ) → n ≡ 1 → nat_eq n 0 ≡ false
odd_by n e = rw e refl

whole_run : (p q : Rational) (cuts : List Rational) → BeginsWith p cuts → EndsWith q cuts
    → whole_of cuts ≡ closed p q
unfolding interval_of run_of BeginsWith EndsWith
whole_run p q [] first last = absurd first
whole_run p q (r ∷ cuts) first last =
    let half : (2 * length (r ∷ cuts) - 1) / 2 ≡ length cuts = omega arith in
    let odd : (2 * length (r ∷ cuts) - 1) % 2 ≡ 1 = omega arith in
    run_is p q r (cut_at (r ∷ cuts) (2 * length (r ∷ cuts) - 1)) false
    (nat_eq ((2 * length (r ∷ cuts) - 1) % 2) 0) first refl
    (ap (λ k. get_or (r ∷ cuts) k nothing) half
    ∙ last_at q (r ∷ cuts) (length cuts) nothing (omega arith) last)
    (odd_by ((2 * length (r ∷ cuts) - 1) % 2) odd)

unfoldable pub range_by : Bound → Bound → Interval
range_by low high = record { low = low; high = high }

pub whole_range : (others : List Rational) (low high : Bound) → AreEnds low high
    → All IsLowest
    (end_numbers low ++ end_numbers high ++ filter (lies_in (range_by low high)) others)
    → whole_of
    (rising (end_numbers low ++ end_numbers high ++ filter (lies_in (range_by low high)) others))
    ≡ range_by low high
unfolding range_by
whole_range others (end.Bound p false) (end.Bound q false) ends lowest =
    let found =
    ends_of p q (filter (lies_in (closed p q)) others) ends lowest
    (passing (lies_in (closed p q)) others) in
    whole_run p q (rising (p ∷ q ∷ filter (lies_in (closed p q)) others)) found.0 found.1
whole_range others (end.Bound p false) (end.Bound q true) ends lowest = absurd ends
whole_range others (end.Bound p false) end.NoBound ends lowest = absurd ends
whole_range others (end.Bound p true) high ends lowest = absurd ends
whole_range others end.NoBound high ends lowest = absurd ends

-- ---- all numbers that are added for a key

-- the numbers that cut a range, before they are put in order
unfoldable pub numbers_of : Rules → Question → Key → Interval → List Rational
numbers_of x question key range =
    end_numbers range.low ++ end_numbers range.high
    ++ filter (lies_in range)
    (limit_cuts key question
    ++ flat_map (λ rule. flat_map (condition_cuts x.names x.routing_step key) rule.conditions)
    (asked_rules x question))

pub record FoundAll (x : Rules) (question : Question) (wanted : KeyRange)
    (list : List Rational) : Type 0 where
  pub are : list ≡ numbers_of x question wanted.key wanted.range
  pub lowest : All IsLowest list

joined : (wanted : KeyRange) (ends limits others : List Rational)
    → (([] ++ ends) ++ within wanted limits) ++ within wanted others
    ≡ ends ++ within wanted (limits ++ others)
joined wanted ends limits others =
    append_assoc ends (within wanted limits) (within wanted others)
    ∙ ap (λ list. ends ++ list) (sym (filter-append (lies_in wanted.range) limits others))

others_are : (x : Rules) (question : Question) (wanted : KeyRange) (asked : List ℕ)
    → asked ≡ asked_numbers x question → wanted.step ≡ x.routing_step
    → asked_cuts x wanted asked
    ≡ flat_map
    (λ rule. flat_map (condition_cuts x.names x.routing_step wanted.key) rule.conditions)
    (asked_rules x question)
others_are x question wanted asked is step =
    sym (asked_cuts_are x wanted asked)
    ∙ ap
    (λ numbers.
    flat_map (λ rule. flat_map (condition_cuts x.names wanted.step wanted.key) rule.conditions)
    (filter_map (slice_get x.rules) numbers))
    is
    ∙ ap
    (λ seconds.
    flat_map (λ rule. flat_map (condition_cuts x.names seconds wanted.key) rule.conditions)
    (asked_rules x question))
    step

pub found_all : (x : Rules) (question : Question) (wanted : KeyRange) (asked : List ℕ)
    (none ends limits list : List Rational) → none ≡ []
    → asked ≡ asked_numbers x question → wanted.step ≡ x.routing_step
    → Adds none ends (end_numbers wanted.range.low ++ end_numbers wanted.range.high)
    → Adds ends limits (within wanted (limit_cuts wanted.key question))
    → Adds limits list (within wanted (asked_cuts x wanted asked))
    → FoundAll x question wanted list
unfolding numbers_of
found_all x question wanted asked none ends limits list nothing_yet is step h k l =
    let first = end_numbers wanted.range.low ++ end_numbers wanted.range.high in
    let second = within wanted (limit_cuts wanted.key question) in
    let third = within wanted (asked_cuts x wanted asked) in
    record {
      are =
          l.numbers
          ∙ ap (λ front. front ++ third)
          (k.numbers
          ∙ ap (λ front. front ++ second) (h.numbers ∙ ap (λ front. front ++ first) nothing_yet))
          ∙ joined wanted first (limit_cuts wanted.key question) (asked_cuts x wanted asked)
          ∙ ap (λ others. first ++ within wanted (limit_cuts wanted.key question ++ others))
          (others_are x question wanted asked is step);
      lowest =
          l.lowest
          (k.lowest (h.lowest (subst (All IsLowest) (sym nothing_yet) (All-nil IsLowest))));
    }

pub cuts_are : (x : Rules) (question : Question) (wanted : KeyRange) (list cuts : List Rational)
    → FoundAll x question wanted list → cuts ≡ rising list
    → cuts ≡ cuts_of x question wanted.key wanted.range
unfolding cuts_of numbers_of
cuts_are x question wanted list cuts found is = is ∙ ap rising found.are

pub cuts_whole : (x : Rules) (question : Question) (wanted : KeyRange) (list : List Rational)
    → FoundAll x question wanted list → IsCutWhole x question (wanted.key, wanted.range)
unfolding cuts_of numbers_of range_by
cuts_whole x question wanted list found =
    λ ends.
    whole_range
    (limit_cuts wanted.key question
    ++ flat_map
    (λ rule. flat_map (condition_cuts x.names x.routing_step wanted.key) rule.conditions)
    (asked_rules x question))
    wanted.range.low wanted.range.high ends (subst (All IsLowest) found.are found.lowest)
