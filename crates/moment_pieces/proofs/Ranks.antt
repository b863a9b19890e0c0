-- Rising numbers: how many are at most a number, and which is the next.
use Rattle.std.proofs.Common.{◌≡◌, ℕ, zero, suc, ◌+◌, ◌<◌, ◌≤◌, ◌⊎◌, inl, inr, ⊎_elim, Bool, true, false, cond}
use Rattle.std.proofs.Common.{List, [], ◌∷◌, length, get_or, Option, Some, None, refl, sym, ap, subst, ◌∙◌, arith}
use Rattle.std.specs.Prelude.{◌==◌, ◌||◌, nat_le, nat_lt, slice_get, MatchOption, MatchResult}
use Rattle.std.specs.Prelude.{Result, Ok, Err, is_ok}
use Rattle.std.proofs.lemmas.Option.{slice_get-get_or, slice_get_past}
use Rattle.std.specs.List.Sorted.{IsBinarySearchResult}
use Rattle.std.proofs.lemmas.List.Sorted.{searched}
use Rattle.std.specs.List.{AllByRecursion}
use Rattle.std.specs.Ordering.{nat_cmp}
use Rattle.std.specs.declared.cmp.Ordering.TheVariants.{Less}
use Rattle.std.proofs.lemmas.Bool.Decides.{nat_tests}
use Rattle.std.proofs.lemmas.Map.Keys.{sorted_head, sorted_tail, below_from_sorted}
use Rattle.moment_pieces.specs.internal.Turns.{stands_in}
use Rattle.moment_pieces.specs.internal.Starts.{Rises, rank, IsNext, IsLast}

-- ---- numbers that are all above one
abbrev pub Above : ℕ → List ℕ → Type 0
Above first list = AllByRecursion (λ s. nat_cmp first s ≡ Less) list

less_is : (a b : ℕ) → nat_cmp a b ≡ Less → a < b
less_is a b e = grind (arith, nat_tests)

pub absent : (list : List ℕ) (first n : ℕ) → Above first list → n ≤ first → stands_in list n ≡ false
absent [] first n h le = refl
absent (s ∷ more) first n h le =
    let above = less_is first s h.0 in
    let rest = absent more first n h.1 le in
    grind (arith, nat_tests)

none_up_to : (list : List ℕ) (first n : ℕ) → Above first list → n ≤ first → rank list n ≡ 0
unfolding rank
none_up_to [] first n h le = refl
none_up_to (s ∷ more) first n h le =
    let above = less_is first s h.0 in
    let rest = none_up_to more first n h.1 le in
    grind (arith, nat_tests)

-- ---- one number on
same_or_below : (i j : ℕ) → i ≤ j → (i ≡ j) ⊎ (i < j)
same_or_below i j l = by_test (i == j) refl
  where
    by_test : (b : Bool) → (i == j) ≡ b → (i ≡ j) ⊎ (i < j)
    by_test true e = inl (grind (arith, nat_tests))
    by_test false e = inr (grind (arith, nat_tests))

below_or_from : (k i : ℕ) → (k < i) ⊎ (i ≤ k)
below_or_from k i = by_test (nat_lt k i) refl
  where
    by_test : (b : Bool) → nat_lt k i ≡ b → (k < i) ⊎ (i ≤ k)
    by_test true e = inl (grind (arith, nat_tests))
    by_test false e = inr (grind (arith, nat_tests))

abbrev pub bit : Bool → ℕ
bit b = cond b 1 0

le_is : (a b : ℕ) → a ≤ b → nat_le a b ≡ true
le_is a b h = grind (arith, nat_tests)

le_not : (a b : ℕ) → b < a → nat_le a b ≡ false
le_not a b h = grind (arith, nat_tests)

eq_same : (a b : ℕ) → a ≡ b → (a == b) ≡ true
eq_same a b h = grind (arith, nat_tests)

eq_below : (a b : ℕ) → a < b → (a == b) ≡ false
eq_below a b h = grind (arith, nat_tests)

eq_above : (a b : ℕ) → b < a → (a == b) ≡ false
eq_above a b h = grind (arith, nat_tests)

sides_of : (s n : ℕ) → (s < n) ⊎ ((s ≡ n) ⊎ (n < s))
sides_of s n = ⊎_elim
    (λ (lt : s < n). inl lt)
    (λ (le : n ≤ s). ⊎_elim (λ (e : n ≡ s). inr (inl (sym e))) (λ (lt : n < s). inr (inr lt)) (same_or_below n s le))
    (below_or_from s n)

step_in : (s k : ℕ) (rest : Bool) (r : ℕ) → (suc k ≤ s → rest ≡ false)
    → bit (nat_le s (suc k)) + (r + bit rest) ≡ (bit (nat_le s k) + r) + bit ((suc k == s) || rest)
step_in s k rest r h = by_side (sides_of s (suc k))
  where
    by_side : (s < suc k) ⊎ ((s ≡ suc k) ⊎ (suc k < s))
        → bit (nat_le s (suc k)) + (r + bit rest) ≡ (bit (nat_le s k) + r) + bit ((suc k == s) || rest)
    by_side (inl lt) =
        rw (le_is s (suc k) (omega arith), le_is s k (omega arith), eq_above (suc k) s lt) (omega arith)
    by_side (inr (inl e)) =
        rw (le_is s (suc k) (omega arith), le_not s k (omega arith), eq_same (suc k) s (sym e), h (omega arith)) (omega arith)
    by_side (inr (inr lt)) =
        rw (le_not s (suc k) lt, le_not s k (omega arith), eq_below (suc k) s lt) (omega arith)

pub rank_step : (list : List ℕ) (k : ℕ) → Rises list
    → rank list (suc k) ≡ rank list k + bit (stands_in list (suc k))
unfolding rank
rank_step [] k h = refl
rank_step (s ∷ more) k h =
    ap (λ n. bit (nat_le s (suc k)) + n) (rank_step more k (sorted_tail nat_cmp s more h))
    ∙ step_in s k (stands_in more (suc k)) (rank more k)
    (λ le. absent more s (suc k) (sorted_head nat_cmp s more h) le)

pub rank_zero : (list : List ℕ) → Rises list → rank list 0 ≡ bit (stands_in list 0)
unfolding rank
rank_zero [] h = refl
rank_zero (s ∷ more) h =
    let head = sorted_head nat_cmp s more h in
    let none = none_up_to more s 0 head (omega arith) in
    let no = absent more s 0 head (omega arith) in
    grind (arith, nat_tests)

bit_most : (b : Bool) → bit b ≤ 1
bit_most true = omega arith
bit_most false = omega arith

pub rank_most : (list : List ℕ) (n : ℕ) → Rises list → rank list n ≤ n + 1
rank_most list zero h = omega (arith, rank_zero list h, bit_most (stands_in list 0))
rank_most list (suc n) h =
    omega (arith, rank_step list n h, bit_most (stands_in list (suc n)), rank_most list n h)

-- ---- by places
rank_empty : (n i : ℕ) → i ≤ 0 → 0 ≡ i
rank_empty n i le = omega arith

pub rank_at : (list : List ℕ) (i n : ℕ) → i ≤ length list
    → ((k : ℕ) → k < i → get_or list k 0 ≤ n)
    → ((k : ℕ) → i ≤ k → k < length list → n < get_or list k 0)
    → rank list n ≡ i
unfolding rank
rank_at [] i n le low high = rank_empty n i le
rank_at (s ∷ more) zero n le low high =
    let above : n < s = high 0 (omega arith) (omega arith) in
    let rest = rank_at more zero n (omega arith) (λ k l. absurd (omega arith)) (λ k a l. high (suc k) (omega arith) (omega arith)) in
    grind (arith, nat_tests)
rank_at (s ∷ more) (suc i) n le low high =
    let within : s ≤ n = low 0 (omega arith) in
    let rest = rank_at more i n (omega arith) (λ k l. low (suc k) (omega arith)) (λ k a l. high (suc k) (omega arith) (omega arith)) in
    grind (arith, nat_tests)

pub stands_at : (list : List ℕ) (i n : ℕ) → i < length list → get_or list i 0 ≡ n → stands_in list n ≡ true
stands_at [] i n l e = absurd (omega arith)
stands_at (s ∷ more) zero n l e = grind (arith, nat_tests)
stands_at (s ∷ more) (suc i) n l e =
    let rest = stands_at more i n (omega arith) e in
    grind (arith, nat_tests)

pub stands_not : (list : List ℕ) (n : ℕ) → ((k : ℕ) → k < length list → get_or list k 0 ≡ n → ⊥)
    → stands_in list n ≡ false
stands_not [] n h = refl
stands_not (s ∷ more) n h =
    let first : s ≡ n → ⊥ = h 0 (omega arith) in
    let rest = stands_not more n (λ k l. h (suc k) (omega arith)) in
    grind (arith, nat_tests)

-- ---- the next number
past_one : (s n m : ℕ) (rest : Bool) → s ≤ n → n < m → rest ≡ false → ((m == s) || rest) ≡ false
past_one s n m rest le l e = grind (arith, nat_tests)

or_true : (a b : Bool) → b ≡ true → (a || b) ≡ true
or_true true b e = refl
or_true false b e = e

next_past : (s n : ℕ) (more : List ℕ) (o : Option ℕ) → s ≤ n
    → MatchOption o (IsLast (stands_in more) n) (IsNext (stands_in more) n)
    → MatchOption o (IsLast (stands_in (s ∷ more)) n) (IsNext (stands_in (s ∷ more)) n)
next_past s n more None le h =
    record { none = λ m l. past_one s n m (stands_in more m) le l (h.none m l) }
next_past s n more (Some next) le h =
    record {
      above = h.above;
      passes = or_true (next == s) (stands_in more next) h.passes;
      none = λ m l k. past_one s n m (stands_in more m) le l (h.none m l k);
    }

next_here : (s n : ℕ) (more : List ℕ) → Above s more → n < s → IsNext (stands_in (s ∷ more)) n s
next_here s n more head above =
    record {
      above = above;
      passes = grind (arith, nat_tests);
      none = λ m l k. before m k (absent more s m head (omega arith));
    }
  where
    before : (m : ℕ) → m < s → stands_in more m ≡ false → ((m == s) || stands_in more m) ≡ false
    before m k e = grind (arith, nat_tests)

next_by : (s n : ℕ) (more : List ℕ) (b : Bool) → nat_le s n ≡ b → Above s more
    → MatchOption (slice_get more (rank more n)) (IsLast (stands_in more) n) (IsNext (stands_in more) n)
    → MatchOption (slice_get (s ∷ more) (bit b + rank more n)) (IsLast (stands_in (s ∷ more)) n) (IsNext (stands_in (s ∷ more)) n)
next_by s n more true e head later =
    let one : 1 + rank more n ≡ suc (rank more n) = omega arith in
    let le : s ≤ n = grind (arith, nat_tests) in
    rw one (next_past s n more (slice_get more (rank more n)) le later)
next_by s n more false e head later =
    let above : n < s = grind (arith, nat_tests) in
    let none : 0 + rank more n ≡ 0 = omega (arith, none_up_to more s n head (omega arith)) in
    rw none (next_here s n more head above)

pub next_is : (list : List ℕ) (n : ℕ) → Rises list
    → MatchOption (slice_get list (rank list n)) (IsLast (stands_in list) n) (IsNext (stands_in list) n)
unfolding rank
next_is [] n h = record { none = λ m l. refl }
next_is (s ∷ more) n h =
    next_by s n more (nat_le s n) refl (sorted_head nat_cmp s more h)
    (next_is more n (sorted_tail nat_cmp s more h))

-- ---- what a search answers
abbrev pub Found : List ℕ → ℕ → Result ℕ ℕ → Type 0
Found list n r = MatchResult r
    (λ i. (rank list n ≡ i + 1) × (i < length list) × (stands_in list n ≡ true))
    (λ i. (rank list n ≡ i) × (i ≤ length list) × (stands_in list n ≡ false))

pub found_rank : (list : List ℕ) (n : ℕ) (r : Result ℕ ℕ) → Rises list
    → IsBinarySearchResult (λ y. nat_cmp y n) list r → Found list n r
found_rank list n r rises h = by_result r (searched list n r h up)
  where
    below : (i j : ℕ) → i < j → j < length list → get_or list i 0 < get_or list j 0
    below i j l k = below_from_sorted list i j 0 rises l k

    up : (i j : ℕ) → i ≤ j → j < length list → get_or list i 0 ≤ get_or list j 0
    up i j l k = ⊎_elim
        (λ (e : i ≡ j). omega (arith, ap (λ m. get_or list m 0) e))
        (λ (lt : i < j). omega (arith, below i j lt k))
        (same_or_below i j l)

    by_result : (r : Result ℕ ℕ)
        → MatchResult r (λ i. (i < length list) × (get_or list i 0 ≡ n))
        (λ i. (i ≤ length list) × ((k : ℕ) → k < i → get_or list k 0 < n) × ((k : ℕ) → i ≤ k → k < length list → n < get_or list k 0))
        → Found list n r
    by_result (Ok i) f = (
      rank_at list (i + 1) n (omega (arith, f.0))
          (λ k l. omega (arith, up k i (omega arith) f.0, f.1))
          (λ k a l. omega (arith, below i k (omega arith) l, f.1)),
      f.0,
      stands_at list i n f.0 f.1,
    )
    by_result (Err i) f = (
      rank_at list i n f.0 (λ k l. omega (arith, f.1 k l)) f.2,
      f.0,
      stands_not list n (λ k l e. ⊎_elim
          (λ (lt : k < i). omega (arith, f.1 k lt, e))
          (λ (le : i ≤ k). omega (arith, f.2 k le l, e))
          (below_or_from k i)),
    )

pub found_stands : (list : List ℕ) (n : ℕ) (r : Result ℕ ℕ) → Found list n r → is_ok r ≡ stands_in list n
found_stands list n (Ok i) h = sym h.2
found_stands list n (Err i) h = sym h.2

-- the number at the place of the rank
pub next_within : (list : List ℕ) (n at : ℕ) → Rises list → at ≡ rank list n → at < length list
    → IsNext (stands_in list) n (get_or list at 0)
next_within list n at h e l =
    subst (λ o. MatchOption o (IsLast (stands_in list) n) (IsNext (stands_in list) n))
    (ap (slice_get list) (sym e) ∙ slice_get-get_or list at 0 l) (next_is list n h)

pub next_past_end : (list : List ℕ) (n at : ℕ) → Rises list → at ≡ rank list n → length list ≤ at
    → IsLast (stands_in list) n
next_past_end list n at h e l =
    subst (λ o. MatchOption o (IsLast (stands_in list) n) (IsNext (stands_in list) n))
    (ap (slice_get list) (sym e) ∙ slice_get_past list at l) (next_is list n h)
