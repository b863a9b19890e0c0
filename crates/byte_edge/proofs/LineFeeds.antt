-- The place of the first LF, from the facts that a search gives of it.
use Rattle.std.proofs.Common.{◌≡◌, ℕ, zero, suc, ◌+◌, ◌<◌, ◌==◌, ◌||◌, Bool, true, false, not, cond, List, [], ◌∷◌, length, Option, Some, None, refl, sym, ◌∙◌, ap, arith, ltb}
use Rattle.std.proofs.lemmas.Bool.Decides.{nat_tests}
use Rattle.std.specs.Prelude.{is_some}
use Rattle.std.specs.List.{position, position_or_len}
use Rattle.memchr.specs.Find.{Nowhere, Passes, IsFirstByte, is_byte}
use Rattle.byte_edge.specs.Lines.{has_line_feed}

-- where the first LF is, or the length
abbrev feed_at : List ℕ → ℕ
feed_at xs = position_or_len (λ byte. byte == 10) xs

none_by : (x : ℕ) (xs : List ℕ) (b : Bool) → (x == 10) ≡ b → Nowhere (Passes (is_byte 10) (x ∷ xs)) 0 (length (x ∷ xs)) → feed_at xs ≡ length xs
    → cond (not b) (1 + feed_at xs) 0 ≡ length (x ∷ xs)
none_by x xs true is none later = absurd (none 0 (omega arith) (omega arith) is)
none_by x xs false is none later = omega (arith, later)

none_found : (xs : List ℕ) → Nowhere (Passes (is_byte 10) xs) 0 (length xs) → feed_at xs ≡ length xs
none_found [] none = refl
none_found (x ∷ xs) none =
    none_by x xs (x == 10) refl none (none_found xs (λ k low high. none (suc k) (omega arith) (omega (arith, high))))

first_by : (x k : ℕ) (xs : List ℕ) (b : Bool) → (x == 10) ≡ b → Nowhere (Passes (is_byte 10) (x ∷ xs)) 0 (suc k) → feed_at xs ≡ k
    → cond (not b) (1 + feed_at xs) 0 ≡ suc k
first_by x k xs true is none later = absurd (none 0 (omega arith) (omega arith) is)
first_by x k xs false is none later = omega (arith, later)

first_found : (xs : List ℕ) (k : ℕ) → k < length xs → Nowhere (Passes (is_byte 10) xs) 0 k → Passes (is_byte 10) xs k → feed_at xs ≡ k
first_found [] k within none at = absurd (omega (arith, within))
first_found (x ∷ xs) zero within none at = ap (λ b. cond (not b) (1 + feed_at xs) 0) at
first_found (x ∷ xs) (suc k) within none at =
    first_by x k xs (x == 10) refl none
    (first_found xs k (omega (arith, within)) (λ i low high. none (suc i) (omega arith) (omega (arith, high))) at)

place_by : (xs : List ℕ) (n : ℕ) (b : Bool) → feed_at xs ≡ n → ltb n (length xs) ≡ b → cond b (Some n) None ≡ position (λ byte. byte == 10) xs
place_by xs n b is within =
    ap (λ c. cond c (Some n) None) (sym within) ∙ ap (λ m. cond (ltb m (length xs)) (Some m) None) (sym is)

not_within : (n : ℕ) → ltb n n ≡ false
not_within n = grind (arith, nat_tests)

pub first_feed : (xs : List ℕ) (place : Option ℕ) → IsFirstByte (is_byte 10) xs place → place ≡ position (λ byte. byte == 10) xs
first_feed xs None none = place_by xs (length xs) false (none_found xs none) (not_within (length xs))
first_feed xs (Some k) found =
    let high : k < length xs = found.0.high in
    let within : ltb k (length xs) ≡ true = grind (arith, nat_tests, high) in
    place_by xs k true (first_found xs k high found.0.before found.1) within

some_by : (x : ℕ) (xs : List ℕ) (b : Bool) → (x == 10) ≡ b → ltb (feed_at xs) (length xs) ≡ has_line_feed xs
    → ltb (cond (not b) (1 + feed_at xs) 0) (suc (length xs)) ≡ (b || has_line_feed xs)
some_by x xs true is later = grind (arith, nat_tests)
some_by x xs false is later =
    let same : ltb (1 + feed_at xs) (suc (length xs)) ≡ ltb (feed_at xs) (length xs) = grind (arith, nat_tests) in
    same ∙ later

within_if_any : (xs : List ℕ) → ltb (feed_at xs) (length xs) ≡ has_line_feed xs
within_if_any [] = refl
within_if_any (x ∷ xs) = some_by x xs (x == 10) refl (within_if_any xs)

some_if : (xs : List ℕ) (b : Bool) → ltb (feed_at xs) (length xs) ≡ b → is_some (position (λ byte. byte == 10) xs) ≡ b
some_if xs true is = ap (λ b. is_some (cond b (Some (feed_at xs)) None)) is
some_if xs false is = ap (λ b. is_some (cond b (Some (feed_at xs)) None)) is

-- the first LF has a place exactly where an LF is among the bytes
pub feed_is_some : (xs : List ℕ) → is_some (position (λ byte. byte == 10) xs) ≡ has_line_feed xs
feed_is_some xs = some_if xs (has_line_feed xs) (within_if_any xs)
