-- Within a piece of moments no second begins a piece.
use Rattle.std.proofs.Common.{◌≡◌, ℕ, zero, suc, Bool, true, false, cond, List, []}
use Rattle.std.proofs.Common.{◌∷◌, ◌++◌, refl, sym, subst, ap, ◌∙◌, arith, ℤ, pos, ◌+ℤ◌, ◌-ℤ◌}
use Rattle.std.proofs.Common.{◌≤ℤ◌, ◌<ℤ◌}
use Rattle.std.specs.Prelude.{int_lt, unsigned_abs}
use Rattle.std.specs.List.{AllByRecursion}
use Rattle.std.proofs.lemmas.Int.{ints}
use Rattle.std.proofs.lemmas.List.{append-nil}
use Rattle.exact_fraction.specs.Number.{Rational}
use Rattle.moment_pieces.specs.Pieces.{begins_piece, later_firsts, piece_firsts}
use Rattle.rule_types.specs.declared.rules.Rules.{Rules}
use Rattle.verdict_meaning.specs.Grids.{spans_to}

-- the seconds from a first to a last one, of which none after the first begins a piece
pub record IsRun (begins : ℤ → Bool) (span : ℤ × ℤ) : Type 0 where
  pub some : span.0 ≤ℤ span.1
  pub quiet : (m : ℤ) → span.0 <ℤ m → m ≤ℤ span.1 → begins m ≡ false

abbrev AreRuns : (ℤ → Bool) → List (ℤ × ℤ) → Type 0
AreRuns begins spans = AllByRecursion (IsRun begins) spans

alone : (begins : ℤ → Bool) (second : ℤ) → IsRun begins (second, second)
alone begins second = record {
  some = omega (arith, ints);
  quiet = λ m after before. absurd (omega (arith, ints, after, before));
}

quiet_by : (begins : ℤ → Bool) (first last m : ℤ) → IsRun begins (first, last)
    → begins (last +ℤ pos 1) ≡ false → first <ℤ m → m ≤ℤ (last +ℤ pos 1) → (b : Bool)
    → int_lt last m ≡ b → begins m ≡ false
quiet_by begins first last m run next after before true e =
    let same : last +ℤ pos 1 ≡ m = omega (arith, ints, e, before) in
    ap begins (sym same) ∙ next
quiet_by begins first last m run next after before false e =
    run.quiet m after (omega (arith, ints, e))

longer : (begins : ℤ → Bool) (first last : ℤ) → IsRun begins (first, last)
    → begins (last +ℤ pos 1) ≡ false → IsRun begins (first, last +ℤ pos 1)
longer begins first last run next = record {
  some = (let early = run.some in omega (arith, ints, early));
  quiet = λ m after before.
      quiet_by begins first last m run next after before (int_lt last m) refl;
}

last_longer : (begins : ℤ → Bool) (last : ℤ) (firsts : List ℤ)
    → AreRuns begins (spans_to last firsts) → begins (last +ℤ pos 1) ≡ false
    → AreRuns begins (spans_to (last +ℤ pos 1) firsts)
unfolding spans_to
last_longer begins last [] h next = tt
last_longer begins last (first ∷ []) h next = (longer begins first last h.0 next, tt)
last_longer begins last (first ∷ second ∷ more) h next =
    (h.0, last_longer begins last (second ∷ more) h.1 next)

one_more : (begins : ℤ → Bool) (last : ℤ) (firsts : List ℤ)
    → AreRuns begins (spans_to last firsts)
    → AreRuns begins (spans_to (last +ℤ pos 1) (firsts ++ (last +ℤ pos 1) ∷ []))
unfolding spans_to
one_more begins last [] h = (alone begins (last +ℤ pos 1), tt)
one_more begins last (first ∷ []) h =
    let same : last ≡ (last +ℤ pos 1) -ℤ pos 1 = omega (arith, ints) in (
      subst (λ end. IsRun begins (first, end)) same h.0,
      (alone begins (last +ℤ pos 1), tt),
    )
one_more begins last (first ∷ second ∷ more) h =
    (h.0, one_more begins last (second ∷ more) h.1)

next_by : (begins : ℤ → Bool) (last : ℤ) (firsts : List ℤ) (b : Bool)
    → begins (last +ℤ pos 1) ≡ b → AreRuns begins (spans_to last firsts)
    → AreRuns begins
    (spans_to (last +ℤ pos 1) (firsts ++ cond b ((last +ℤ pos 1) ∷ []) []))
next_by begins last firsts true e h = one_more begins last firsts h
next_by begins last firsts false e h =
    subst (λ list. AreRuns begins (spans_to (last +ℤ pos 1) list)) (sym (append-nil firsts))
    (last_longer begins last firsts h e)

runs_from : (begins : ℤ → Bool) (from : ℤ) (count : ℕ)
    → AreRuns begins (spans_to (from +ℤ pos count) (from ∷ later_firsts begins from count))
unfolding later_firsts spans_to
runs_from begins from zero =
    let same : from ≡ from +ℤ pos 0 = omega (arith, ints) in
    (subst (λ end. IsRun begins (from, end)) same (alone begins from), tt)
runs_from begins from (suc count) =
    let same : (from +ℤ pos count) +ℤ pos 1 ≡ from +ℤ pos (suc count) = omega (arith, ints) in
    subst
    (λ next.
    AreRuns begins
    (spans_to next
    ((from ∷ later_firsts begins from count) ++ cond (begins next) (next ∷ []) [])))
    same
    (next_by begins (from +ℤ pos count) (from ∷ later_firsts begins from count)
    (begins ((from +ℤ pos count) +ℤ pos 1)) refl (runs_from begins from count))

no_runs : (begins : ℤ → Bool) (end : ℤ) → AreRuns begins (spans_to end [])
unfolding spans_to
no_runs begins end = tt

pub piece_runs : (x : Rules) (used : List ℕ) (step : Rational) (start from to : ℤ)
    → AreRuns (begins_piece x used step start)
    (spans_to to (piece_firsts x used step start from to))
unfolding piece_firsts
piece_runs x used step start from to = by_test (int_lt to from) refl
  where
    by_test : (b : Bool) → int_lt to from ≡ b
        → AreRuns (begins_piece x used step start)
        (spans_to to
        (cond b []
        (from ∷ later_firsts (begins_piece x used step start) from (unsigned_abs (to -ℤ from)))))
    by_test true is = no_runs (begins_piece x used step start) to
    by_test false is =
        let same : from +ℤ pos (unsigned_abs (to -ℤ from)) ≡ to = omega (arith, ints, is) in
        subst
        (λ end.
        AreRuns (begins_piece x used step start)
        (spans_to end
        (from ∷ later_firsts (begins_piece x used step start) from (unsigned_abs (to -ℤ from)))))
        same
        (runs_from (begins_piece x used step start) from (unsigned_abs (to -ℤ from)))
