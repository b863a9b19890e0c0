-- Tests over a run of seconds.
use Rattle.std.proofs.Common.{◌≡◌, ℕ, zero, suc, ◌≤◌, ◌↔◌, ◌⊎◌, inl, inr, ⊎_elim, Bool, true, false, not, ℤ, pos, ◌+ℤ◌, refl, sym, ap, ◌∙◌, arith}
use Rattle.std.specs.Prelude.{◌&&◌, ◌==◌}
use Rattle.std.proofs.lemmas.Bool.{true≢false}
use Rattle.std.proofs.lemmas.Bool.Decides.{nat_tests}
use Rattle.std.proofs.lemmas.Int.{ints}
use Rattle.clock_values.specs.Seconds.{passes_throughout, passes_nowhere}

none_added : (from : ℤ) → from +ℤ pos 0 ≡ from
none_added from = omega (arith, ints)

both_left : (a b : Bool) → (a && b) ≡ true → a ≡ true
both_left true b e = refl
both_left false b e = absurd (true≢false (sym e))

both_right : (a b : Bool) → (a && b) ≡ true → b ≡ true
both_right true b e = e
both_right false b e = absurd (true≢false (sym e))

both_true : (a b : Bool) → a ≡ true → b ≡ true → (a && b) ≡ true
both_true true b e f = f
both_true false b e f = e

last_or_before : (k more : ℕ) → k ≤ suc more → (k ≤ more) ⊎ (k ≡ suc more)
last_or_before k more h = by_test (k == suc more) refl
  where
    by_test : (b : Bool) → (k == suc more) ≡ b → (k ≤ more) ⊎ (k ≡ suc more)
    by_test true e = inr (grind (arith, nat_tests))
    by_test false e = inl (grind (arith, nat_tests))

each_passes : (test : ℤ → Bool) (from : ℤ) (more : ℕ) → passes_throughout test from more ≡ true
    → (k : ℕ) → k ≤ more → test (from +ℤ pos k) ≡ true
unfolding passes_throughout
each_passes test from zero h k l =
    let first : k ≡ 0 = omega arith in
    ap (λ n. test (from +ℤ pos n)) first ∙ ap test (none_added from) ∙ h
each_passes test from (suc more) h k l =
    ⊎_elim
    (λ (le : k ≤ more). each_passes test from more
    (both_left (passes_throughout test from more) (test (from +ℤ pos (suc more))) h) k le)
    (λ (e : k ≡ suc more). ap (λ n. test (from +ℤ pos n)) e
    ∙ both_right (passes_throughout test from more) (test (from +ℤ pos (suc more))) h)
    (last_or_before k more l)

all_pass : (test : ℤ → Bool) (from : ℤ) (more : ℕ) → ((k : ℕ) → k ≤ more → test (from +ℤ pos k) ≡ true)
    → passes_throughout test from more ≡ true
unfolding passes_throughout
all_pass test from zero h = ap test (sym (none_added from)) ∙ h 0 (omega arith)
all_pass test from (suc more) h =
    both_true (passes_throughout test from more) (test (from +ℤ pos (suc more)))
    (all_pass test from more (λ k l. h k (omega arith))) (h (suc more) (omega arith))

pub throughout : (test : ℤ → Bool) (from : ℤ) (more : ℕ)
    → (passes_throughout test from more ≡ true) ↔ ((k : ℕ) → k ≤ more → test (from +ℤ pos k) ≡ true)
throughout test from more = (each_passes test from more, all_pass test from more)

fails_is : (b : Bool) → not b ≡ true → b ≡ false
fails_is true e = absurd (true≢false (sym e))
fails_is false e = refl

each_fails : (test : ℤ → Bool) (from : ℤ) (more : ℕ) → passes_nowhere test from more ≡ true
    → (k : ℕ) → k ≤ more → test (from +ℤ pos k) ≡ false
unfolding passes_nowhere
each_fails test from zero h k l =
    let first : k ≡ 0 = omega arith in
    ap (λ n. test (from +ℤ pos n)) first ∙ ap test (none_added from) ∙ fails_is (test from) h
each_fails test from (suc more) h k l =
    ⊎_elim
    (λ (le : k ≤ more). each_fails test from more
    (both_left (passes_nowhere test from more) (not (test (from +ℤ pos (suc more)))) h) k le)
    (λ (e : k ≡ suc more). ap (λ n. test (from +ℤ pos n)) e
    ∙ fails_is (test (from +ℤ pos (suc more)))
    (both_right (passes_nowhere test from more) (not (test (from +ℤ pos (suc more)))) h))
    (last_or_before k more l)

all_fail : (test : ℤ → Bool) (from : ℤ) (more : ℕ) → ((k : ℕ) → k ≤ more → test (from +ℤ pos k) ≡ false)
    → passes_nowhere test from more ≡ true
unfolding passes_nowhere
all_fail test from zero h = ap not (ap test (sym (none_added from)) ∙ h 0 (omega arith))
all_fail test from (suc more) h =
    both_true (passes_nowhere test from more) (not (test (from +ℤ pos (suc more))))
    (all_fail test from more (λ k l. h k (omega arith))) (ap not (h (suc more) (omega arith)))

pub nowhere : (test : ℤ → Bool) (from : ℤ) (more : ℕ)
    → (passes_nowhere test from more ≡ true) ↔ ((k : ℕ) → k ≤ more → test (from +ℤ pos k) ≡ false)
nowhere test from more = (each_fails test from more, all_fail test from more)
