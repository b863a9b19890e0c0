-- The floor of an integer quotient.
use Rattle.std.proofs.Common.{◌≡◌, ℕ, ◌/◌, ◌<◌, ℤ, pos, negsuc, ◌+ℤ◌, ◌*ℤ◌}
use Rattle.std.proofs.Common.{◌≤ℤ◌, ◌<ℤ◌, arith, mod-lt, div-add-mod', lt_of_mul-lt-mul_right}
use Rattle.std.specs.Int.{int_div_euclid}
use Rattle.std.proofs.lemmas.Int.{ints}
use Rattle.exact_fraction.proofs.Ring.{at, nat, plus, by, ring_le, ring_lt, parts_lt}

pub floor_at_most : (n : ℤ) (d : ℕ) → 0 < d → (pos d *ℤ int_div_euclid n (pos d)) ≤ℤ n
floor_at_most (pos a) d h = ring_le (by (nat d) (nat (a / d))) (nat a) (omega (arith, div-add-mod' a d))
floor_at_most (negsuc a) d h =
    ring_le (by (nat d) (at (negsuc (a / d)))) (at (negsuc a)) (omega (arith, div-add-mod' a d, mod-lt a h))

pub floor_above : (n : ℤ) (d : ℕ) → 0 < d → n <ℤ (pos d *ℤ (int_div_euclid n (pos d) +ℤ pos 1))
floor_above (pos a) d h =
    ring_lt (nat a) (by (nat d) (plus (nat (a / d)) (nat 1))) (omega (arith, div-add-mod' a d, mod-lt a h))
floor_above (negsuc a) d h =
    ring_lt (at (negsuc a)) (by (nat d) (plus (at (negsuc (a / d))) (nat 1))) (omega (arith, div-add-mod' a d))

-- a positive factor of both sides
less_factor : (x y : ℤ) (d : ℕ) → (pos d *ℤ x) <ℤ (pos d *ℤ y) → x <ℤ y
less_factor x y d h =
    let p = parts_lt (by (nat d) (at x)) (by (nat d) (at y)) h in
    ring_lt (at x) (at y) (lt_of_mul-lt-mul_right d (omega (arith, p)))

-- n below one product, and another product at most n
below_next : (x n y : ℤ) (d : ℕ) → (pos d *ℤ x) ≤ℤ n → n <ℤ (pos d *ℤ y) → x <ℤ y
below_next x n y d h k = less_factor x y d (omega (arith, ints, h, k))

pub floor_unique : (n m : ℤ) (d : ℕ) → 0 < d → (pos d *ℤ m) ≤ℤ n → n <ℤ (pos d *ℤ (m +ℤ pos 1))
    → int_div_euclid n (pos d) ≡ m
floor_unique n m d p h k =
    let q = int_div_euclid n (pos d) in
    let a = below_next m n (q +ℤ pos 1) d h (floor_above n d p) in
    let b = below_next q n (m +ℤ pos 1) d (floor_at_most n d p) k in
    omega (arith, ints, a, b)
