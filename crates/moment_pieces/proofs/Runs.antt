-- Runs of moments.
use Rattle.std.proofs.Common.{◌≡◌, ℕ, ◌≤◌, Bool, true, false, cond, Some, None, ℤ, pos, ◌+ℤ◌, ◌-ℤ◌, ◌≤ℤ◌, refl, ap, ap₂, ◌∙◌, arith, to_z, of_z, w64}
use Rattle.std.specs.Prelude.{◌&&◌, int_le, FitsSigned}
use Rattle.std.specs.Int.{int_rem_euclid}
use Rattle.std.proofs.lemmas.Int.{ints, to_z-of_z}
use Rattle.exact_fraction.specs.Moments.{IsMoment, moment_at, first_second, last_second}
use Rattle.rule_meaning.proofs.PublicLaws.{day_seconds-whole, day_seconds-bounds}
use Rattle.moment_pieces.specs.declared.spans.Span.{Span}
use Rattle.moment_pieces.specs.internal.Spans.{IsSpan, IsRunOf}

le_true : (x y : ℤ) → x ≤ℤ y → int_le x y ≡ true
le_true x y h = by_test (int_le x y) refl
  where
    by_test : (b : Bool) → int_le x y ≡ b → b ≡ true
    by_test true e = refl
    by_test false e = absurd (omega (arith, ints, e, h))

pub moment_is : (s : ℤ) → IsMoment s → moment_at s ≡ Some s
unfolding moment_at
moment_is s h =
    ap (λ b. cond b (Some s) None) (ap₂ (λ x y. x && y) (le_true first_second s h.early) (le_true s last_second h.late))

-- a number of a run is a moment
pub within_run : (span : Span) (number : ℕ) → IsSpan span → span.first ≤ number → number ≤ span.last
    → IsMoment (span.midnight +ℤ pos number)
within_run span number h least most =
    let from_is = h.from_is in
    let early = h.from_fits.early in
    let late = h.to_fits.late in
    record {
      early = omega (arith, ints, from_is, early, least);
      late = omega (arith, ints, late, most);
    }

-- the run of two moments
pub run_of : (start from to : ℤ) (span : Span) → IsMoment from → IsMoment to → from ≤ℤ to
    → span.from ≡ from → span.midnight ≡ from -ℤ int_rem_euclid from (pos 86400)
    → span.start ≡ start -ℤ span.midnight → pos span.first ≡ int_rem_euclid from (pos 86400)
    → pos span.last ≡ to -ℤ span.midnight → IsRunOf start from to span
run_of start from to span early late order from_is midnight start_is first last =
    let whole = day_seconds-whole from in
    let rest = day_seconds-bounds from in
    let least = rest.0 in
    let most = rest.1 in
    let e = early.early in
    let l = late.late in
    record {
      fits = record {
        from_is = omega (arith, ints, from_is, midnight, first);
        from_fits = rw from_is early;
        to_fits = record {
          early = omega (arith, ints, last, e, order);
          late = omega (arith, ints, last, l);
        };
        order = omega (arith, ints, first, last, midnight, order);
        bound = omega (arith, ints, last, midnight, least, most, e, l);
      };
      from_is = from_is;
      to_is = omega (arith, ints, last);
      midnight = omega (arith, ints, whole, midnight);
      start_is = start_is;
    }

pub moment_fits : (second : ℤ) → IsMoment second → FitsSigned w64 second
moment_fits second h = omega (arith, ints, h.early, h.late)

-- the moment that is made of a second that is passed
pub moment_passed : (passed second : ℤ) → passed ≡ second → IsMoment second
    → moment_at (to_z w64 (of_z w64 passed)) ≡ Some second
moment_passed passed second e h =
    ap (λ s. moment_at (to_z w64 (of_z w64 s))) e
    ∙ ap moment_at (to_z-of_z w64 second (moment_fits second h)) ∙ moment_is second h
