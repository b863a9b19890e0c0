-- The sizes of a block and of its parts.
use Rattle.std.proofs.Common.{◌≡◌, ℕ, zero, suc, ◌+◌, ◌-◌, ◌*◌, ◌^◌, ◌≤◌, ◌<◌, Bool, true, false, ◌||◌, Option, Some}
use Rattle.std.proofs.Common.{List, [], ◌∷◌, length, refl, sym, ap, ap₂, ◌∙◌, arith, mul-le-mul_right}
use Rattle.std.specs.Prelude.{slice_set, slice_get}
use Rattle.std.specs.List.{list_any}
use Rattle.std.proofs.Math.Nat.{pow-suc}
use Rattle.std.proofs.lemmas.Bool.Decides.{nat_tests}
use Rattle.block_search.specs.declared.span.Span.{Span}
use Rattle.block_search.specs.Blocks.{is_none, is_wide, size, span_from, width}
use Rattle.block_search.specs.internal.Cuts.{IsMiddle}

pub neither : (a b : Bool) → (a || b) ≡ false → (a ≡ false) × (b ≡ false)
neither true b e = absurd (grind arith)
neither false b e = (refl, e)

pub some_span : (m n : Span) → Some m ≡ Some n → m ≡ n
some_span m n e = grind arith

pub wide_some : (span : Span) → is_none span ≡ false → 1 ≤ width span
wide_some span e = grind (arith, nat_tests)

pub wide_two : (span : Span) → is_wide span ≡ true → 2 ≤ width span
wide_two span e = grind (arith, nat_tests)

product_some : (a b : ℕ) → 1 ≤ a → 1 ≤ b → 1 ≤ a * b
product_some a b h k = let grown : 1 * b ≤ a * b = mul-le-mul_right b h in omega (arith, grown, k)

pub size_some : (block : List Span) → list_any is_none block ≡ false → 1 ≤ size block
unfolding size
size_some [] h = omega arith
size_some (span ∷ more) h =
    let parts = neither (is_none span) (list_any is_none more) h in
    product_some (width span) (size more) (wide_some span parts.0) (size_some more parts.1)

-- what a block's size is besides the pieces of one axis
pub record IsSized (block : List Span) (axis : ℕ) (span : Span) : Type 0 where
  pub rest : ℕ
  pub some : 1 ≤ rest
  pub block_is : size block ≡ width span * rest
  pub part_is : (low high : ℕ) → size (slice_set block axis (span_from low high)) ≡ (high - low) * rest

turned : (a b c : ℕ) → a * (b * c) ≡ b * (a * c)
turned a b c = omega arith

pub sized : (block : List Span) (axis : ℕ) (span : Span) → list_any is_none block ≡ false
    → slice_get block axis ≡ Some span → IsSized block axis span
unfolding size
sized [] axis span h get = absurd (grind arith)
sized (first ∷ more) zero span h get =
    let parts = neither (is_none first) (list_any is_none more) h in
    record {
      rest = size more;
      some = size_some more parts.1;
      block_is = ap (λ s. width s * size more) (some_span first span get);
      part_is = λ low high. refl;
    }
sized (first ∷ more) (suc axis) span h get =
    let parts = neither (is_none first) (list_any is_none more) h in
    let inner = sized more axis span parts.1 get in
    record {
      rest = width first * inner.rest;
      some = product_some (width first) inner.rest (wide_some first parts.0) inner.some;
      block_is =
          ap (λ n. width first * n) inner.block_is
          ∙ turned (width first) (width span) inner.rest;
      part_is = λ low high.
          ap (λ n. width first * n) (inner.part_is low high)
          ∙ turned (width first) (high - low) inner.rest;
    }

third_by : (w s rest part whole : ℕ) → 3 * w ≤ 2 * s → part ≡ w * rest → whole ≡ s * rest
    → 3 * part ≤ 2 * whole
third_by w s rest part whole h e f =
    let grown : (3 * w) * rest ≤ (2 * s) * rest = mul-le-mul_right rest h in
    omega (arith, grown, e, f)

-- a part of at most two thirds of the pieces has at most two thirds of the cells
pub part_third : (block : List Span) (axis : ℕ) (span : Span) → IsSized block axis span
    → (low high : ℕ) → 3 * (high - low) ≤ 2 * width span
    → 3 * size (slice_set block axis (span_from low high)) ≤ 2 * size block
part_third block axis span h low high k =
    third_by (high - low) (width span) h.rest (size (slice_set block axis (span_from low high)))
    (size block) k (h.part_is low high) h.block_is

two_by : (w rest whole : ℕ) → 2 ≤ w → 1 ≤ rest → whole ≡ w * rest → 2 ≤ whole
two_by w rest whole h k e =
    let grown : 2 * rest ≤ w * rest = mul-le-mul_right rest h in
    omega (arith, grown, k, e)

pub size_two : (block : List Span) (axis : ℕ) (span : Span) → IsSized block axis span
    → is_wide span ≡ true → 2 ≤ size block
size_two block axis span h wide =
    two_by (width span) h.rest (size block) (wide_two span wide) h.some h.block_is

pub part_less : (part whole : ℕ) → 3 * part ≤ 2 * whole → 1 ≤ whole → part < whole
part_less part whole h k = omega (arith, h, k)

pub inner_third : (of_moments : Bool) (span : Span) (at from : ℕ) → is_wide span ≡ true
    → IsMiddle of_moments span at from → 3 * (from - at) ≤ 2 * width span
inner_third of_moments span at from wide h =
    let close = h.close in
    let two : 2 ≤ width span = wide_two span wide in
    omega (arith, close, two)

-- ---- levels
level_by : (t s a b : ℕ) → 3 * t ≤ 2 * s → s * (a * 2) ≤ b * 3 → t * a ≤ b
level_by t s a b h k =
    let grown : (3 * t) * a ≤ (2 * s) * a = mul-le-mul_right a h in
    omega (arith, grown, k)

pub level_less : (t s f : ℕ) → 3 * t ≤ 2 * s → s * 2 ^ suc f ≤ 3 ^ suc f → t * 2 ^ f ≤ 3 ^ f
level_less t s f h k = level_by t s (2 ^ f) (3 ^ f) h (rw (pow-suc 2 f, pow-suc 3 f) at k)

pub level_some : (s : ℕ) → 2 ≤ s → s * 2 ^ 0 ≤ 3 ^ 0 → ⊥
level_some s h k = omega (arith, h, k)
