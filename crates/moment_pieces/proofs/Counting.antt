-- The next number at which a piece begins, and how many there are.
use Rattle.std.proofs.Common.{◌≡◌, ℕ, zero, suc, ◌+◌, ◌-◌, ◌*◌, ◌/◌, ◌%◌, ◌<◌, ◌≤◌, Bool, true, false, cond}
use Rattle.std.proofs.Common.{List, [], ◌∷◌, ◌++◌, length, ℤ, pos, ◌+ℤ◌, ◌-ℤ◌, refl, sym, ap, ap₂, ◌∙◌, arith}
use Rattle.std.proofs.Common.{append-nil, length-append, mul-le-mul_left}
use Rattle.std.specs.Prelude.{◌==◌, ◌||◌, nat_lt, unsigned_abs}
use Rattle.std.proofs.lemmas.Bool.{true≢false}
use Rattle.std.proofs.lemmas.Bool.Decides.{nat_tests}
use Rattle.std.proofs.lemmas.Int.{ints}
use Rattle.moment_pieces.specs.Pieces.{later_firsts}
use Rattle.moment_pieces.specs.internal.Turns.{stands_in}
use Rattle.moment_pieces.specs.internal.Starts.{Rises, rank, IsNext, IsLast, IsLastUpTo}
use Rattle.moment_pieces.specs.internal.Starts.{IsDaily, AreSingle, begins, starts_up_to, sooner_of}
use Rattle.moment_pieces.specs.internal.Spans.{begins_at}
use Rattle.moment_pieces.proofs.Ranks.{bit, rank_step, rank_zero, rank_most}

-- ---- the next second of a day
pub daily_some : (daily : List ℕ) (at t : ℕ) → IsDaily daily → IsNext (stands_in daily) (at % 86400) t
    → IsNext (λ m. stands_in daily (m % 86400)) at (at - at % 86400 + t)
daily_some daily at t d h =
    let small = d.within t h.passes in
    let rest : (at - at % 86400 + t) % 86400 ≡ t = omega arith in
    record {
      above = omega (arith, h.above);
      passes = ap (stands_in daily) rest ∙ h.passes;
      none = λ m l k. h.none (m % 86400) (omega (arith, h.above)) (omega (arith, h.above));
    }

pub daily_none : (daily : List ℕ) (at : ℕ) → IsDaily daily → IsLast (stands_in daily) (at % 86400)
    → IsNext (λ m. stands_in daily (m % 86400)) at (at - at % 86400 + 86400)
daily_none daily at d h =
    let rest : (at - at % 86400 + 86400) % 86400 ≡ 0 = omega arith in
    record {
      above = omega arith;
      passes = ap (stands_in daily) rest ∙ d.midnight;
      none = λ m l k. h.none (m % 86400) (omega arith);
    }

-- ---- the next of two
or_left : (a b : Bool) → a ≡ true → (a || b) ≡ true
or_left true b e = refl
or_left false b e = absurd (true≢false (sym e))

or_right : (a b : Bool) → b ≡ true → (a || b) ≡ true
or_right true b e = refl
or_right false b e = e

neither : (a b : Bool) → a ≡ false → b ≡ false → (a || b) ≡ false
neither a b e f = ap₂ (λ x y. x || y) e f

pub next_first : (p q : ℕ → Bool) (at next : ℕ) → IsNext p at next
    → ((m : ℕ) → at < m → m < next → q m ≡ false) → IsNext (λ m. p m || q m) at next
next_first p q at next h none = record {
  above = h.above;
  passes = or_left (p next) (q next) h.passes;
  none = λ m l k. neither (p m) (q m) (h.none m l k) (none m l k);
}

pub next_second : (p q : ℕ → Bool) (at next : ℕ) → IsNext q at next
    → ((m : ℕ) → at < m → m < next → p m ≡ false) → IsNext (λ m. p m || q m) at next
next_second p q at next h none = record {
  above = h.above;
  passes = or_right (p next) (q next) h.passes;
  none = λ m l k. neither (p m) (q m) (none m l k) (h.none m l k);
}

pub next_alone : (p q : ℕ → Bool) (at next : ℕ) → IsNext p at next → IsLast q at → IsNext (λ m. p m || q m) at next
next_alone p q at next h k = next_first p q at next h (λ m l a. k.none m l)

pub next_sooner : (p q : ℕ → Bool) (at next single : ℕ) → IsNext p at next → IsNext q at single
    → IsNext (λ m. p m || q m) at (sooner_of next single)
next_sooner p q at next single h k = by_test (nat_lt single next) refl
  where
    by_test : (b : Bool) → nat_lt single next ≡ b → IsNext (λ m. p m || q m) at (cond b single next)
    by_test true e =
        let below : single < next = grind (arith, nat_tests) in
        next_second p q at single k (λ m l a. h.none m l (omega arith))
    by_test false e =
        let least : next ≤ single = grind (arith, nat_tests) in
        next_first p q at next h (λ m l a. k.none m l (omega arith))

-- ---- how many
bit_either : (a b : Bool) → (b ≡ true → a ≡ false) → bit (a || b) ≡ bit a + bit b
bit_either true true h = absurd (true≢false (h refl))
bit_either true false h = refl
bit_either false true h = refl
bit_either false false h = refl

bit_off : (b : Bool) → (b ≡ true → ⊥) → bit b ≡ 0
bit_off true h = absurd (h refl)
bit_off false h = refl

-- at a midnight
at_midnight : (daily singles : List ℕ) (k : ℕ) → IsDaily daily → AreSingle daily singles → suc k % 86400 ≡ 0
    → starts_up_to daily singles (suc k) ≡ starts_up_to daily singles k + bit (begins daily singles (suc k))
unfolding starts_up_to begins
at_midnight daily singles k d s e =
    let whole : suc k / 86400 ≡ suc (k / 86400) = omega arith in
    let last : k % 86400 ≡ 86399 = omega arith in
    let here : stands_in daily (suc k % 86400) ≡ true = ap (stands_in daily) e ∙ d.midnight in
    let first : rank daily (suc k % 86400) ≡ 1 = ap (rank daily) e ∙ rank_zero daily d.rising ∙ ap bit d.midnight in
    let before : rank daily (k % 86400) ≡ rank daily 86399 = ap (rank daily) last in
    let begin : bit (stands_in daily (suc k % 86400) || stands_in singles (suc k)) ≡ 1 = ap bit (or_left (stands_in daily (suc k % 86400)) (stands_in singles (suc k)) here) in
    let off : bit (stands_in singles (suc k)) ≡ 0 = bit_off (stands_in singles (suc k)) (λ on. true≢false (sym here ∙ s.apart (suc k) on)) in
    let step = rank_step singles k s.rising in
    let product : suc k / 86400 * rank daily 86399 ≡ k / 86400 * rank daily 86399 + rank daily 86399 = rw whole (omega arith) in
    omega (arith, product, first, before, begin, off, step)

-- within a day
in_day : (daily singles : List ℕ) (k : ℕ) → IsDaily daily → AreSingle daily singles → (suc k % 86400 ≡ 0 → ⊥)
    → starts_up_to daily singles (suc k) ≡ starts_up_to daily singles k + bit (begins daily singles (suc k))
unfolding starts_up_to begins
in_day daily singles k d s other =
    let whole : suc k / 86400 ≡ k / 86400 = omega (arith, other) in
    let next : suc k % 86400 ≡ suc (k % 86400) = omega (arith, other) in
    let daily_step : rank daily (suc k % 86400) ≡ rank daily (k % 86400) + bit (stands_in daily (suc k % 86400)) =
    ap (rank daily) next ∙ rank_step daily (k % 86400) d.rising ∙ ap (λ m. rank daily (k % 86400) + bit (stands_in daily m)) (sym next) in
    let step = rank_step singles k s.rising in
    let both = bit_either (stands_in daily (suc k % 86400)) (stands_in singles (suc k)) (s.apart (suc k)) in
    let product : suc k / 86400 * rank daily 86399 ≡ k / 86400 * rank daily 86399 = ap (λ n. n * rank daily 86399) whole in
    omega (arith, product, daily_step, step, both)

start_step : (daily singles : List ℕ) (k : ℕ) → IsDaily daily → AreSingle daily singles
    → starts_up_to daily singles (suc k) ≡ starts_up_to daily singles k + bit (begins daily singles (suc k))
start_step daily singles k d s = by_test (suc k % 86400 == 0) refl
  where
    by_test : (b : Bool) → (suc k % 86400 == 0) ≡ b
        → starts_up_to daily singles (suc k) ≡ starts_up_to daily singles k + bit (begins daily singles (suc k))
    by_test true e = at_midnight daily singles k d s (grind (arith, nat_tests))
    by_test false e = in_day daily singles k d s (grind (arith, nat_tests))

length_one : (b : Bool) (x : ℤ) → length (cond b (x ∷ []) []) ≡ bit b
length_one true x = refl
length_one false x = refl

pub later_count : (daily singles : List ℕ) (midnight : ℤ) (first n : ℕ) → IsDaily daily → AreSingle daily singles
    → starts_up_to daily singles (first + n)
    ≡ starts_up_to daily singles first + length (later_firsts (begins_at daily singles midnight) (midnight +ℤ pos first) n)
unfolding later_firsts
later_count daily singles midnight first zero d s =
    let same : first + 0 ≡ first = omega arith in
    ap (starts_up_to daily singles) same ∙ omega arith
later_count daily singles midnight first (suc n) d s =
    let on : first + suc n ≡ suc (first + n) = omega arith in
    let second = (midnight +ℤ pos first) +ℤ pos (suc n) in
    let number : unsigned_abs (second -ℤ midnight) ≡ suc (first + n) = omega (arith, ints) in
    let more = begins_at daily singles midnight second in
    let long = length-append (later_firsts (begins_at daily singles midnight) (midnight +ℤ pos first) n) (cond more (second ∷ []) []) in
    let one : length (cond more (second ∷ []) []) ≡ bit (begins daily singles (suc (first + n))) = length_one more second ∙ ap (λ k. bit (begins daily singles k)) number in
    let before = later_count daily singles midnight first n d s in
    let step = start_step daily singles (first + n) d s in
    ap (starts_up_to daily singles) on ∙ omega (arith, long, one, before, step)

-- ---- the listed firsts
kept : (b : Bool) (xs : List ℤ) (x : ℤ) → b ≡ false → xs ++ cond b (x ∷ []) [] ≡ xs
kept true xs x e = absurd (true≢false e)
kept false xs x e = append-nil xs

quiet : (b : ℤ → Bool) (from : ℤ) (n k : ℕ) → ((j : ℕ) → n < j → j ≤ n + k → b (from +ℤ pos j) ≡ false)
    → later_firsts b from (n + k) ≡ later_firsts b from n
unfolding later_firsts
quiet b from n zero h = let same : n + 0 ≡ n = omega arith in ap (later_firsts b from) same
quiet b from n (suc k) h =
    let on : n + suc k ≡ suc (n + k) = omega arith in
    let off = h (suc (n + k)) (omega arith) (omega arith) in
    ap (later_firsts b from) on
    ∙ kept (b (from +ℤ pos (suc (n + k)))) (later_firsts b from (n + k)) (from +ℤ pos (suc (n + k))) off
    ∙ quiet b from n k (λ j l m. h j l (omega arith))

module _ (daily singles : List ℕ) (midnight from : ℤ) (first at : ℕ) (e : from ≡ midnight +ℤ pos first) (l : first ≤ at) where
  abbrev B : ℤ → Bool
  B = begins_at daily singles midnight

  number_is : (j : ℕ) → unsigned_abs ((from +ℤ pos j) -ℤ midnight) ≡ first + j
  number_is j = omega (arith, ints, e)

  pub firsts_last : (last : ℕ) → at ≤ last → IsLastUpTo (begins daily singles) at last
      → later_firsts (begins_at daily singles midnight) from (last - first)
      ≡ later_firsts (begins_at daily singles midnight) from (at - first)
  firsts_last last k h =
      let sum : last - first ≡ (at - first) + (last - at) = omega arith in
      ap (later_firsts (begins_at daily singles midnight) from) sum
      ∙ quiet (begins_at daily singles midnight) from (at - first) (last - at)
      (λ j a b. ap (begins daily singles) (number_is j) ∙ h.none (first + j) (omega arith) (omega arith))

  pub firsts_next : (next : ℕ) → IsNext (begins daily singles) at next
      → later_firsts (begins_at daily singles midnight) from (next - first)
      ≡ later_firsts (begins_at daily singles midnight) from (at - first) ++ (midnight +ℤ pos next) ∷ []
  unfolding later_firsts
  firsts_next next h =
      let above = h.above in
      let sum : next - first ≡ suc ((at - first) + (next - at - 1)) = omega arith in
      let n = (at - first) + (next - at - 1) in
      let end : first + suc n ≡ next = omega arith in
      let passes : begins_at daily singles midnight (from +ℤ pos (suc n)) ≡ true = ap (begins daily singles) (number_is (suc n) ∙ end) ∙ h.passes in
      let second : from +ℤ pos (suc n) ≡ midnight +ℤ pos next = omega (arith, ints, e, end) in
      ap (later_firsts (begins_at daily singles midnight) from) sum
      ∙ ap₂ (λ xs b. xs ++ cond b ((from +ℤ pos (suc n)) ∷ []) [])
      (quiet (begins_at daily singles midnight) from (at - first) (next - at - 1)
      (λ j a b. ap (begins daily singles) (number_is j) ∙ h.none (first + j) (omega arith) (omega arith)))
      passes
      ∙ ap (λ x. later_firsts (begins_at daily singles midnight) from (at - first) ++ x ∷ []) second

pub firsts_begin : (daily singles : List ℕ) (midnight from : ℤ) (first : ℕ) (at : ℤ)
    → from ≡ midnight +ℤ pos first → at ≡ midnight +ℤ pos first
    → at ∷ [] ≡ from ∷ later_firsts (begins_at daily singles midnight) from (first - first)
unfolding later_firsts
firsts_begin daily singles midnight from first at e h =
    let none : 0 ≡ first - first = omega arith in
    ap (λ s. s ∷ []) (h ∙ sym e) ∙ ap (λ n. from ∷ later_firsts (begins_at daily singles midnight) from n) none

-- ---- bounds
pub starts_bound : (daily singles : List ℕ) (m : ℕ) → Rises daily → Rises singles
    → m / 86400 * rank daily 86399 ≤ m
starts_bound daily singles m d s =
    let few = rank_most daily 86399 d in
    let grown : m / 86400 * rank daily 86399 ≤ m / 86400 * 86400 = mul-le-mul_left (m / 86400) (omega (arith, few)) in
    omega (arith, grown)
