-- The first moments of pieces rise to the last moment.
use Rattle.std.proofs.Common.{◌≡◌, ℕ, zero, suc, ◌<◌, Bool, true, false, List, [], ◌∷◌, ◌++◌}
use Rattle.std.proofs.Common.{get_or}
use Rattle.std.proofs.Common.{ℤ, pos, ◌+ℤ◌, ◌-ℤ◌, ◌≤ℤ◌, ◌<ℤ◌, refl, sym, subst, arith}
use Rattle.std.specs.Prelude.{int_lt, unsigned_abs, if◌then◌else◌}
use Rattle.std.proofs.lemmas.Int.{ints}
use Rattle.std.proofs.lemmas.List.{append-nil}
use Rattle.std.proofs.lemmas.List.Elements.{All-append}
use Rattle.std.proofs.lemmas.List.Quantifiers.{all_pairs_push}
use Rattle.exact_fraction.specs.Number.{Rational}
use Rattle.moment_pieces.specs.Pieces.{begins_piece, later_firsts, piece_firsts}
use Rattle.rule_types.specs.declared.rules.Rules.{Rules}
use Rattle.grid_blocks.specs.GridOrder.{AreFirstsTo}

-- ---- one more moment
none_to : (last : ℤ) → AreFirstsTo last []
none_to last = record {
  rising = λ i j d h k. absurd (omega (arith, k));
  to_last = λ k d within. absurd (omega (arith, within));
}

one_to : (first : ℤ) → AreFirstsTo first (first ∷ [])
one_to first = record { rising = alone; to_last = itself }
  where
    alone : (i j : ℕ) (d : ℤ) → i < j → j < 1
        → get_or (first ∷ []) i d <ℤ get_or (first ∷ []) j d
    alone i j d h k = absurd (omega (arith, h, k))

    itself : (k : ℕ) (d : ℤ) → k < 1 → get_or (first ∷ []) k d ≤ℤ first
    itself zero d within = omega (arith, ints)
    itself (suc k) d within = absurd (omega (arith, within))

later_to : (last next : ℤ) (firsts : List ℤ) → last ≤ℤ next → AreFirstsTo last firsts
    → AreFirstsTo next firsts
later_to last next firsts h to = record {
  rising = to.rising;
  to_last = λ k d within. (let early = to.to_last k d within in omega (arith, ints, early, h));
}

pushed_to : (last next : ℤ) (firsts : List ℤ) → last <ℤ next → AreFirstsTo last firsts
    → AreFirstsTo next (firsts ++ next ∷ [])
pushed_to last next firsts h to = record {
  rising =
      all_pairs_push (λ first later. first <ℤ later) firsts next to.rising
      (λ k d within. (let early = to.to_last k d within in omega (arith, ints, early, h)));
  to_last =
      All-append (λ first. first ≤ℤ next) firsts (next ∷ [])
      (later_to last next firsts (omega (arith, ints, h)) to).to_last (one_to next).to_last;
}

-- ---- the firsts of a run of moments
next_by : (b : Bool) (last next : ℤ) (firsts : List ℤ) → last <ℤ next → AreFirstsTo last firsts
    → AreFirstsTo next (firsts ++ (if b then next ∷ [] else []))
next_by true last next firsts h to = pushed_to last next firsts h to
next_by false last next firsts h to =
    subst (AreFirstsTo next) (sym (append-nil firsts))
    (later_to last next firsts (omega (arith, ints, h)) to)

run_to : (begins : ℤ → Bool) (from : ℤ) (count : ℕ)
    → AreFirstsTo (from +ℤ pos count) (from ∷ later_firsts begins from count)
unfolding later_firsts
run_to begins from zero =
    let here : from ≤ℤ (from +ℤ pos 0) = omega (arith, ints) in
    later_to from (from +ℤ pos 0) (from ∷ []) here (one_to from)
run_to begins from (suc count) =
    let next : (from +ℤ pos count) <ℤ (from +ℤ pos (suc count)) = omega (arith, ints) in
    next_by (begins (from +ℤ pos (suc count))) (from +ℤ pos count) (from +ℤ pos (suc count))
    (from ∷ later_firsts begins from count) next (run_to begins from count)

span_to : (begins : ℤ → Bool) (from to : ℤ) (b : Bool) → int_lt to from ≡ b
    → AreFirstsTo to
    (if b then [] else from ∷ later_firsts begins from (unsigned_abs (to -ℤ from)))
span_to begins from to true e = none_to to
span_to begins from to false e =
    let last : (from +ℤ pos (unsigned_abs (to -ℤ from))) ≤ℤ to = omega (arith, ints, e) in
    later_to (from +ℤ pos (unsigned_abs (to -ℤ from))) to
    (from ∷ later_firsts begins from (unsigned_abs (to -ℤ from))) last
    (run_to begins from (unsigned_abs (to -ℤ from)))

pub firsts_rise : (x : Rules) (used : List ℕ) (step : Rational) (start from to : ℤ)
    → AreFirstsTo to (piece_firsts x used step start from to)
unfolding piece_firsts
firsts_rise x used step start from to =
    span_to (begins_piece x used step start) from to (int_lt to from) refl
