-- The parts of the interval of a run at one of its cuts are the intervals of its parts.
use Rattle.std.proofs.Common.{◌≡◌, ℕ, ◌+◌, true, false, List, get_or, sym, ap, ap₂, arith}
use Rattle.std.specs.Prelude.{◌/◌, ◌%◌, nat_eq}
use Rattle.std.proofs.lemmas.Bool.Decides.{nat_tests}
use Rattle.exact_fraction.specs.Number.{Rational, zero}
use Rattle.interval_sets.specs.declared.interval.Bound.{Bound}
use Rattle.interval_sets.specs.declared.interval.Bound.TheVariants as end
use Rattle.interval_sets.specs.declared.interval.Interval.{Interval}
use Rattle.interval_sets.specs.Intervals.{point_of}
use Rattle.block_search.specs.declared.span.Span.{Span}
use Rattle.block_search.specs.Blocks.{one_piece, span_from}
use Rattle.verdict_meaning.specs.Certificates.{above_of, below_of}
use Rattle.grid_blocks.specs.GridBoxes.{cut_at, interval_of}

abbrev between : Bound → Bound → Interval
between low high = record { low = low; high = high }

-- the cut of an even piece is also that of the gap above it
next_cut : (cuts : List Rational) (at : ℕ) → at % 2 ≡ 0 → cut_at cuts (at + 1) ≡ cut_at cuts at
next_cut cuts at even =
    let place : (at + 1) / 2 ≡ at / 2 = omega (arith, even) in
    ap (λ n. get_or cuts n zero) place

is_even : (at : ℕ) → at % 2 ≡ 0 → nat_eq (at % 2) 0 ≡ true
is_even at even = grind (arith, nat_tests)

is_not_odd : (at : ℕ) → at % 2 ≡ 0 → nat_eq (at % 2) 1 ≡ false
is_not_odd at even = grind (arith, nat_tests)

next_is_odd : (at : ℕ) → at % 2 ≡ 0 → nat_eq ((at + 1) % 2) 1 ≡ true
next_is_odd at even = grind (arith, nat_tests)

next_is_not_even : (at : ℕ) → at % 2 ≡ 0 → nat_eq ((at + 1) % 2) 0 ≡ false
next_is_not_even at even = grind (arith, nat_tests)

pub below_is : (cuts : List Rational) (span : Span) (at : ℕ) → at % 2 ≡ 0
    → below_of (interval_of cuts span) (cut_at cuts at)
    ≡ interval_of cuts (span_from span.low at)
unfolding interval_of
below_is cuts span at even =
    ap
    (λ b.
    between (end.Bound (cut_at cuts span.low) (nat_eq (span.low % 2) 1))
    (end.Bound (cut_at cuts at) b))
    (sym (is_even at even))

pub point_is : (cuts : List Rational) (at : ℕ) → at % 2 ≡ 0
    → point_of (cut_at cuts at) ≡ interval_of cuts (one_piece at)
unfolding interval_of
point_is cuts at even =
    ap₂ between (ap (end.Bound (cut_at cuts at)) (sym (is_not_odd at even)))
    (ap₂ end.Bound (sym (next_cut cuts at even)) (sym (next_is_not_even at even)))

pub above_is : (cuts : List Rational) (span : Span) (at : ℕ) → at % 2 ≡ 0
    → above_of (interval_of cuts span) (cut_at cuts at)
    ≡ interval_of cuts (span_from (at + 1) span.high)
unfolding interval_of
above_is cuts span at even =
    ap (λ low. between low (end.Bound (cut_at cuts span.high) (nat_eq (span.high % 2) 0)))
    (ap₂ end.Bound (sym (next_cut cuts at even)) (sym (next_is_odd at even)))
