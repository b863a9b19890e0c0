-- The moments of a run of moment pieces, and those of its parts.
use Rattle.std.proofs.Common.{◌≡◌, ◌⊎◌, inl, inr, ℕ, ◌<◌, ◌≤◌, true}
use Rattle.std.proofs.Common.{length, ℤ, pos, ◌-ℤ◌, ◌≤ℤ◌, ◌<ℤ◌, sym, ap, ap₂, subst, arith}
use Rattle.std.specs.Prelude.{◌&&◌, slice_get, int_le}
use Rattle.std.proofs.lemmas.Bool.{cases_lt}
use Rattle.std.proofs.lemmas.Int.{ints}
use Rattle.std.proofs.lemmas.Option.{slice_get-get_or, slice_get_past}
use Rattle.block_search.specs.declared.span.Span.{Span}
use Rattle.grid_blocks.specs.declared.grid.MomentPieces.{MomentPieces}
use Rattle.grid_blocks.specs.GridBoxes.{end_before, first_moment, moments_in}
use Rattle.grid_blocks.specs.GridOrder.{AreFirstsTo}
use Rattle.grid_blocks.proofs.MadeMoments.{le_true}

-- ---- tests of moments
before_next : (x y : ℤ) → x <ℤ y → x ≤ℤ (y -ℤ pos 1)
before_next x y h = omega (arith, ints, h)

below_is_at_most : (x y : ℤ) → x <ℤ y → x ≤ℤ y
below_is_at_most x y h = omega (arith, ints, h)

-- ---- the moments of a run
-- the last moment before a piece that there is
pub end_is : (pieces : MomentPieces) (at : ℕ) → at < length pieces.firsts
    → end_before pieces (slice_get pieces.firsts at) ≡ first_moment pieces at -ℤ pos 1
end_is pieces at within =
    ap (end_before pieces) (slice_get-get_or pieces.firsts at pieces.last within)

last_is : (pieces : MomentPieces) (at : ℕ) → length pieces.firsts ≤ at
    → end_before pieces (slice_get pieces.firsts at) ≡ pieces.last
last_is pieces at past = ap (end_before pieces) (slice_get_past pieces.firsts at past)

through_by : (pieces : MomentPieces) (low high : ℕ) → AreFirstsTo pieces.last pieces.firsts
    → low < high → high ≤ length pieces.firsts
    → (high < length pieces.firsts) ⊎ (length pieces.firsts ≤ high)
    → first_moment pieces low ≤ℤ end_before pieces (slice_get pieces.firsts high)
through_by pieces low high order h k (inl within) =
    subst (λ last. first_moment pieces low ≤ℤ last) (sym (end_is pieces high within))
    (before_next (first_moment pieces low) (first_moment pieces high)
    (order.rising low high pieces.last h within))
through_by pieces low high order h k (inr past) =
    subst (λ last. first_moment pieces low ≤ℤ last) (sym (last_is pieces high past))
    (order.to_last low pieces.last (omega (arith, h, k)))

pub through : (pieces : MomentPieces) (span : Span) → AreFirstsTo pieces.last pieces.firsts
    → span.low < span.high → span.high ≤ length pieces.firsts
    → int_le (moments_in pieces span).0 (moments_in pieces span).1 ≡ true
through pieces span order h k =
    le_true (moments_in pieces span).0 (moments_in pieces span).1
    (through_by pieces span.low span.high order h k
    (cases_lt span.high (length pieces.firsts)))

-- a piece of a run that is not its first begins after the first moment and not past the last one
pub between_moments : (pieces : MomentPieces) (span : Span) (at : ℕ)
    → AreFirstsTo pieces.last pieces.firsts → span.low < at → at < span.high
    → span.high ≤ length pieces.firsts
    → (int_le (moments_in pieces span).0 (first_moment pieces at)
    && int_le (first_moment pieces at) (moments_in pieces span).1) ≡ true
between_moments pieces span at order h k within =
    ap₂ (λ b c. b && c)
    (le_true (first_moment pieces span.low) (first_moment pieces at)
    (below_is_at_most (first_moment pieces span.low) (first_moment pieces at)
    (order.rising span.low at pieces.last h (omega (arith, k, within)))))
    (le_true (first_moment pieces at) (moments_in pieces span).1
    (through_by pieces at span.high order k within (cases_lt span.high (length pieces.firsts))))
