-- No cut lies inside a piece: a piece is a point, or a gap beside which each cut lies.
use Rattle.std.proofs.Common.{◌≡◌, Bool, true, false, not, ◌⊎◌, inl, inr, List, []}
use Rattle.std.proofs.Common.{◌∷◌, cond, refl, sym, subst, ◌∙◌}
use Rattle.std.proofs.lemmas.Bool.{and_from, not_from_false, true≢false}
use Rattle.std.specs.List.{AllByRecursion, list_any}
use Rattle.exact_fraction.specs.Number.{Rational}
use Rattle.exact_fraction.specs.Order.{◌<ℚ◌, less, same}
use Rattle.exact_fraction.proofs.PublicLaws.{order-at_most_below, order-below_at_most}
use Rattle.exact_fraction.proofs.PublicLaws.{order-below_is_at_most}
use Rattle.exact_fraction.proofs.PublicLaws.{order-same_is_at_most, tests-less, tests-not_less}
use Rattle.exact_fraction.proofs.PublicLaws.{tests-same, tests-same_by_less}
use Rattle.interval_sets.specs.Cuts.{IsRising}
use Rattle.interval_sets.specs.declared.interval.Interval.{Interval}
use Rattle.interval_sets.specs.Intervals.{point_of}
use Rattle.interval_sets.proofs.PublicLaws.{cuts-next}
use Rattle.verdict_meaning.specs.Grids.{gap_of, inserted, pieces_of, rising}
use Rattle.cell_truths.proofs.Lists.{Among, or_cases, or_left, or_right}

-- a number is at most the low end of a gap, or at least its high end
abbrev pub IsBeside : Rational → Rational → Rational → Type 0
IsBeside low high c = (less low c ≡ false) ⊎ (less c high ≡ false)

-- a piece is a gap, and these numbers lie beside it
pub record IsGapBeside (P : Rational → Type 0) (piece : Interval) : Type 0 where
  pub low : Rational
  pub high : Rational
  pub is : piece ≡ gap_of low high
  pub rises : less low high ≡ true
  pub beside : (c : Rational) → P c → IsBeside low high c

abbrev pub IsPoint : Interval → Type 0
IsPoint piece = (p : Rational) × (piece ≡ point_of p)

abbrev pub IsPieceBeside : (Rational → Type 0) → Interval → Type 0
IsPieceBeside P piece = IsPoint piece ⊎ IsGapBeside P piece

-- the cuts have a number
abbrev pub HasCut : List Rational → Rational → Type 0
HasCut cuts c = list_any (same c) cuts ≡ true

-- ---- numbers that rise have each of their numbers
same_itself : (q : Rational) → same q q ≡ true
same_itself q = (tests-same q q).1 (record { eq = refl })

own_by : (q p : Rational) (cuts later : List Rational) (a b : Bool) → less q p ≡ a
    → less p q ≡ b → HasCut later q
    → HasCut (cond a (q ∷ p ∷ cuts) (cond b (p ∷ later) (p ∷ cuts))) q
own_by q p cuts later true b e f h =
    or_left (same q q) (list_any (same q) (p ∷ cuts)) (same_itself q)
own_by q p cuts later false true e f h = or_right (same q p) (list_any (same q) later) h
own_by q p cuts later false false e f h =
    or_left (same q p) (list_any (same q) cuts)
    (tests-same_by_less q p
    ∙ and_from (not (less q p)) (not (less p q)) (not_from_false (less q p) e)
    (not_from_false (less p q) f))

own_cut : (q : Rational) (cuts : List Rational) → HasCut (inserted q cuts) q
unfolding inserted
own_cut q [] = or_left (same q q) false (same_itself q)
own_cut q (p ∷ cuts) =
    own_by q p cuts (inserted q cuts) (less q p) (less p q) refl refl (own_cut q cuts)

kept_by : (c q p : Rational) (cuts later : List Rational) (a b : Bool) → HasCut (p ∷ cuts) c
    → (HasCut cuts c → HasCut later c)
    → HasCut (cond a (q ∷ p ∷ cuts) (cond b (p ∷ later) (p ∷ cuts))) c
kept_by c q p cuts later true b h more = or_right (same c q) (list_any (same c) (p ∷ cuts)) h
kept_by c q p cuts later false true h more =
    first_or (or_cases (same c p) (list_any (same c) cuts) h)
  where
    first_or : (same c p ≡ true) ⊎ (list_any (same c) cuts ≡ true) → HasCut (p ∷ later) c
    first_or (inl is) = or_left (same c p) (list_any (same c) later) is
    first_or (inr is) = or_right (same c p) (list_any (same c) later) (more is)
kept_by c q p cuts later false false h more = h

kept_cut : (c q : Rational) (cuts : List Rational) → HasCut cuts c → HasCut (inserted q cuts) c
unfolding inserted
kept_cut c q [] h = absurd (true≢false (sym h))
kept_cut c q (p ∷ cuts) h =
    kept_by c q p cuts (inserted q cuts) (less q p) (less p q) h (kept_cut c q cuts)

pub has_number : (numbers : List Rational) (c : Rational) → Among numbers c
    → HasCut (rising numbers) c
unfolding rising
has_number [] c at = absurd at
has_number (q ∷ more) c (inl e) = subst (HasCut (rising (q ∷ more))) e (own_cut q (rising more))
has_number (q ∷ more) c (inr at) = kept_cut c q (rising more) (has_number more c at)

-- ---- pieces
-- each cut is at least the first of them
same_least : (q c : Rational) → same c q ≡ true → less c q ≡ false
same_least q c is =
    (tests-not_less c q).1 (order-same_is_at_most c q ((tests-same c q).0 is)).1

least_by : (q c r : Rational) (rest : List Rational) → IsRising (q ∷ r ∷ rest)
    → (HasCut (r ∷ rest) c → less c r ≡ false)
    → (same c q ≡ true) ⊎ (list_any (same c) (r ∷ rest) ≡ true) → less c q ≡ false
least_by q c r rest rises ih (inl is) = same_least q c is
least_by q c r rest rises ih (inr is) =
    let below = ((cuts-next q r rest).0 rises).0 in
    (tests-not_less c q).1
    (order-below_is_at_most q c
    (order-below_at_most q r c below ((tests-not_less c r).0 (ih is))))

one_least : (q c : Rational) → (same c q ≡ true) ⊎ (false ≡ true) → less c q ≡ false
one_least q c (inl is) = same_least q c is
one_least q c (inr is) = absurd (true≢false (sym is))

least_cut : (q : Rational) (more : List Rational) → IsRising (q ∷ more) → (c : Rational)
    → HasCut (q ∷ more) c → less c q ≡ false
least_cut q [] rises c h = one_least q c (or_cases (same c q) false h)
least_cut q (r ∷ rest) rises c h =
    least_by q c r rest rises (least_cut r rest ((cuts-next q r rest).0 rises).1 c)
    (or_cases (same c q) (list_any (same c) (r ∷ rest)) h)

-- a number is at most a cut, or one of the later cuts
abbrev IsBeforeOrLater : Rational → List Rational → Rational → Type 0
IsBeforeOrLater p more c = (less p c ≡ false) ⊎ HasCut more c

at_or_later : (p c : Rational) (more : List Rational)
    → (same c p ≡ true) ⊎ (list_any (same c) more ≡ true) → IsBeforeOrLater p more c
at_or_later p c more (inl is) =
    inl ((tests-not_less p c).1 (order-same_is_at_most c p ((tests-same c p).0 is)).0)
at_or_later p c more (inr is) = inr is

next_or_later : (p q c : Rational) (more : List Rational) → p <ℚ q
    → IsBeforeOrLater p (q ∷ more) c → IsBeforeOrLater q more c
next_or_later p q c more below (inl early) =
    inl ((tests-not_less q c).1
    (order-below_is_at_most c q (order-at_most_below c p q ((tests-not_less p c).0 early) below)))
next_or_later p q c more below (inr h) =
    at_or_later q c more (or_cases (same c q) (list_any (same c) more) h)

beside_gap : (p q c : Rational) (more : List Rational) → IsRising (q ∷ more)
    → IsBeforeOrLater p (q ∷ more) c → IsBeside p q c
beside_gap p q c more rises (inl early) = inl early
beside_gap p q c more rises (inr h) = inr (least_cut q more rises c h)

pieces_beside : (P : Rational → Type 0) (p : Rational) (more : List Rational)
    → IsRising (p ∷ more) → ((c : Rational) → P c → IsBeforeOrLater p more c)
    → AllByRecursion (IsPieceBeside P) (pieces_of (p ∷ more))
unfolding pieces_of
pieces_beside P p [] rises h = (inl (p, refl), tt)
pieces_beside P p (q ∷ more) rises h =
    let parts = (cuts-next p q more).0 rises in (
      inl (p, refl),
      (
        inr (record {
          low = p;
          high = q;
          is = refl;
          rises = (tests-less p q).1 parts.0;
          beside = λ c own. beside_gap p q c more parts.1 (h c own);
        }),
        pieces_beside P q more parts.1 (λ c own. next_or_later p q c more parts.0 (h c own)),
      ),
    )

pub cut_pieces : (cuts : List Rational) → IsRising cuts
    → AllByRecursion (IsPieceBeside (HasCut cuts)) (pieces_of cuts)
unfolding pieces_of
cut_pieces [] rises = tt
cut_pieces (p ∷ more) rises =
    pieces_beside (HasCut (p ∷ more)) p more rises
    (λ c h. at_or_later p c more (or_cases (same c p) (list_any (same c) more) h))
