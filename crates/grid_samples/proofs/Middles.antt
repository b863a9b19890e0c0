-- The middle of two numbers, worked out at 128 bits.
use Rattle.std.proofs.Common.{◌≡◌, ℕ, zero as nothing, suc, ◌*◌, ◌^◌, ◌<◌, ℤ, pos, ◌+ℤ◌, ◌*ℤ◌, refl, ap, ap₂, subst, ◌∙◌, arith, to_z, of_z, mul-pos}
use Rattle.std.specs.Prelude.{unsigned_abs}
use Rattle.std.specs.Int.{w128}
use Rattle.std.proofs.lemmas.Int.{ints, to_z-of_z}
use Rattle.exact_fraction.specs.Number.{Rational, den, ratio}
use Rattle.exact_fraction.specs.Operations.{middle_of, product_of, sum_of}
use Rattle.exact_fraction.specs.Checked.{fitting, made}
use Rattle.exact_fraction.proofs.PublicLaws.{lowest_terms-of_same, lowest_terms-positive, lowest_terms-value}
use Rattle.exact_fraction.proofs.Ring.{at, by, nat, parts_same, ring}
use Rattle.verdict_meaning.specs.Grids.{middle_if}

-- ---- numbers that are passed at 128 bits
passed : (v : ℤ) → unsigned_abs v < 2 ^ 126 → to_z w128 (of_z w128 v) ≡ v
passed v h = to_z-of_z w128 v (omega (arith, ints, h))

sum_passed : (a b : ℤ) → unsigned_abs a < 2 ^ 126 → unsigned_abs b < 2 ^ 126
    → to_z w128 (of_z w128 (to_z w128 (of_z w128 a) +ℤ to_z w128 (of_z w128 b))) ≡ a +ℤ b
sum_passed a b h k =
    ap₂ (λ m n. to_z w128 (of_z w128 (m +ℤ n))) (passed a h) (passed b k)
    ∙ to_z-of_z w128 (a +ℤ b) (omega (arith, ints, h, k))

double_passed : (d : ℕ) → unsigned_abs (pos d) < 2 ^ 126
    → to_z w128 (of_z w128 (to_z w128 (of_z w128 (pos d)) *ℤ pos 2)) ≡ pos (d * 2)
double_passed d h =
    ap (λ n. to_z w128 (of_z w128 (n *ℤ pos 2))) (passed (pos d) h)
    ∙ to_z-of_z w128 (pos (d * 2)) (omega (arith, ints, h))

-- ---- the middle
half_same : (n s : ℤ) (d e : ℕ) → s *ℤ pos d ≡ n *ℤ pos e
    → n *ℤ pos (e * 2) ≡ (s *ℤ pos 1) *ℤ pos (d * 2)
half_same n s d e h =
    let x = parts_same (by (at s) (nat d)) (by (at n) (nat e)) h in
    ring (by (at n) (nat (e * 2))) (by (by (at s) (nat 1)) (nat (d * 2))) (omega (arith, x))

middle_is : (p q : Rational)
    → ratio (p.num *ℤ pos (den q) +ℤ q.num *ℤ pos (den p)) (den p * den q * 2) ≡ middle_of p q
unfolding middle_of product_of sum_of den
middle_is p q =
    let n = p.num *ℤ pos (den q) +ℤ q.num *ℤ pos (den p) in
    let d = den p * den q in
    let some : 0 < d = mul-pos (lowest_terms-positive p) (lowest_terms-positive q) in
    let s = ratio n d in
    lowest_terms-of_same n (s.num *ℤ pos 1) (d * 2) (den s * 2) (omega (arith, some))
    (omega (arith, lowest_terms-positive s))
    (half_same n s.num d (den s) (lowest_terms-value n d some))

made_is : (n : ℤ) (d : ℕ) → 0 < d → made n (pos d) ≡ middle_if (ratio n d)
unfolding made fitting
made_is n nothing h = absurd (omega (arith, h))
made_is n (suc d) h = refl

pub middle_made : (p q : Rational) (r s t : ℤ) → r ≡ p.num *ℤ pos (den q)
    → unsigned_abs r < 2 ^ 126 → s ≡ q.num *ℤ pos (den p) → unsigned_abs s < 2 ^ 126
    → t ≡ pos (den p * den q) → unsigned_abs t < 2 ^ 126
    → made (to_z w128 (of_z w128 (to_z w128 (of_z w128 r) +ℤ to_z w128 (of_z w128 s))))
    (to_z w128 (of_z w128 (to_z w128 (of_z w128 t) *ℤ pos 2)))
    ≡ middle_if (middle_of p q)
middle_made p q r s t e f g h i j =
    let some : 0 < den p * den q = mul-pos (lowest_terms-positive p) (lowest_terms-positive q) in
    let num = sum_passed r s f h ∙ ap₂ (λ a b. a +ℤ b) e g in
    let double =
    ap (λ z. to_z w128 (of_z w128 (to_z w128 (of_z w128 z) *ℤ pos 2))) i
    ∙ double_passed (den p * den q) (subst (λ z. unsigned_abs z < 2 ^ 126) i j) in
    ap₂ made num double
    ∙ made_is (p.num *ℤ pos (den q) +ℤ q.num *ℤ pos (den p)) (den p * den q * 2)
    (omega (arith, some))
    ∙ ap middle_if (middle_is p q)
