-- The lengths of written numbers and moments.
use Rattle.std.proofs.Common.{◌≡◌, ℕ, zero, suc, ◌+◌, ◌*◌, ◌/◌, ◌%◌, ◌^◌, ◌≤◌, ◌==◌, Bool, true, false, cond, List, [], ◌∷◌, ◌++◌, codes, length, arith, length-append, ℤ, pos, negsuc}
use Rattle.std.specs.Prelude.{decimal, unsigned_abs}
use Rattle.std.specs.Fmt.{digits, digits_onto, digit_glyph}
use Rattle.std.specs.List.{list_all}
use Rattle.exact_fraction.specs.Number.{Rational, den}
use Rattle.num_text.specs.Bytes.{zero_digit}
use Rattle.num_text.specs.CivilDays.{year_at, month_at, day_at}
use Rattle.num_text.specs.Numbers.{without_end_zeros}
use Rattle.num_text.specs.Values.{written_sign, written_behind, written_units, written_size, written_value}
use Rattle.num_text.specs.Written.{places, written_day, written_time, written_moment, seconds_after_first}

-- ---- texts in a row
pub in_row : (m n : ℕ) (one other : List ℕ) → length one ≤ m → length other ≤ n → length (one ++ other) ≤ m + n
in_row m n one other h k =
    let both : length (one ++ other) ≡ length one + length other = length-append one other in omega (arith, both, h, k)

-- ---- digits
onto_length : (k base : ℕ) (upper : Bool) (n : ℕ) (behind : List ℕ)
    → length (digits_onto k base upper n behind) ≤ k + length behind
onto_length zero base upper n behind = omega arith
onto_length (suc k) base upper n behind =
    by_test (n / base == 0) (onto_length k base upper (n / base) (digit_glyph upper (n % base) ∷ behind))
  where
    by_test : (b : Bool)
        → length (digits_onto k base upper (n / base) (digit_glyph upper (n % base) ∷ behind)) ≤ k + suc (length behind)
        → length
        (cond b (digit_glyph upper (n % base) ∷ behind) (digits_onto k base upper (n / base) (digit_glyph upper (n % base) ∷ behind)))
        ≤ suc k + length behind
    by_test true again = let one : suc (length behind) ≤ suc k + length behind = omega arith in one
    by_test false again = omega (arith, again)

pub decimal_short : (n : ℕ) → length (decimal n) ≤ 64
unfolding digits
decimal_short n = let h : length (digits_onto 64 10 false n []) ≤ 64 + 0 = onto_length 64 10 false n [] in omega (arith, h)

places_length : (count n : ℕ) → length (places count n) ≤ count
unfolding places
places_length zero n = omega arith
places_length (suc count) n =
    let h : length (places count (n / 10) ++ ((zero_digit + n % 10) ∷ [])) ≤ count + 1 =
    in_row count 1 (places count (n / 10)) ((zero_digit + n % 10) ∷ []) (places_length count (n / 10)) (omega arith) in
    omega (arith, h)

-- ---- decimals without the zeros at their end
zeros_length : (digits : List ℕ) → length (without_end_zeros digits) ≤ length digits
unfolding without_end_zeros
zeros_length [] = omega arith
zeros_length (digit ∷ digits) = by_test (list_all (λ d. d == zero_digit) (digit ∷ digits)) (zeros_length digits)
  where
    by_test : (b : Bool) → length (without_end_zeros digits) ≤ length digits
        → length (cond b [] (digit ∷ without_end_zeros digits)) ≤ suc (length digits)
    by_test true again = omega arith
    by_test false again = let h : suc (length (without_end_zeros digits)) ≤ suc (length digits) = omega (arith, again) in h

behind_length : (count : ℕ) (digits : List ℕ) → length digits ≤ count → length (written_behind digits) ≤ 1 + count
behind_length count [] h = omega arith
behind_length count (digit ∷ digits) h =
    let one : suc (length digits) ≤ count = h in
    let two : suc (suc (length digits)) ≤ 1 + count = omega (arith, one) in two

-- ---- written values
units_length : (units : ℕ) → length (written_units units) ≤ 83
unfolding written_units
units_length units =
    let part = places 18 (units % 10 ^ 18) in
    let short : length (without_end_zeros part) ≤ 18 = omega (arith, zeros_length part, places_length 18 (units % 10 ^ 18)) in
    in_row 64 19 (decimal (units / 10 ^ 18)) (written_behind (without_end_zeros part)) (decimal_short (units / 10 ^ 18))
    (behind_length 18 (without_end_zeros part) short)

size_length : (size below : ℕ) → length (written_size size below) ≤ 129
unfolding written_size
size_length size below = by_test (10 ^ 18 % below == 0)
  where
    by_test : (b : Bool)
        → length (cond b (written_units (size * (10 ^ 18 / below))) ((decimal size ++ codes "/") ++ decimal below)) ≤ 129
    by_test true = let h = units_length (size * (10 ^ 18 / below)) in omega (arith, h)
    by_test false = in_row 65 64 (decimal size ++ codes "/") (decimal below)
        (in_row 64 1 (decimal size) (codes "/") (decimal_short size) (omega arith)) (decimal_short below)

sign_length : (n : ℤ) → length (written_sign n) ≤ 1
sign_length (pos n) = omega arith
sign_length (negsuc n) = omega arith

pub value_short : (q : Rational) → length (written_value q) ≤ 130
unfolding written_value
value_short q =
    in_row 1 129 (written_sign q.num) (written_size (unsigned_abs q.num) (den q)) (sign_length q.num)
    (size_length (unsigned_abs q.num) (den q))

-- ---- written moments
day_length : (days : ℕ) → length (written_day days) ≤ 10
day_length days =
    in_row 8 2 (((places 4 (year_at days) ++ codes "-") ++ places 2 (month_at days)) ++ codes "-") (places 2 (day_at days))
    (in_row 7 1 ((places 4 (year_at days) ++ codes "-") ++ places 2 (month_at days)) (codes "-")
    (in_row 5 2 (places 4 (year_at days) ++ codes "-") (places 2 (month_at days))
    (in_row 4 1 (places 4 (year_at days)) (codes "-") (places_length 4 (year_at days)) (omega arith))
    (places_length 2 (month_at days))) (omega arith))
    (places_length 2 (day_at days))

time_length : (second : ℕ) → length (written_time second) ≤ 8
time_length second =
    in_row 6 2 (((places 2 (second / 3600) ++ codes ":") ++ places 2 (second / 60 % 60)) ++ codes ":") (places 2 (second % 60))
    (in_row 5 1 ((places 2 (second / 3600) ++ codes ":") ++ places 2 (second / 60 % 60)) (codes ":")
    (in_row 3 2 (places 2 (second / 3600) ++ codes ":") (places 2 (second / 60 % 60))
    (in_row 2 1 (places 2 (second / 3600)) (codes ":") (places_length 2 (second / 3600)) (omega arith))
    (places_length 2 (second / 60 % 60))) (omega arith))
    (places_length 2 (second % 60))

pub moment_short : (second : ℤ) → length (written_moment second) ≤ 19
unfolding written_moment
moment_short second =
    let days = seconds_after_first second / 86_400 in
    let rest = seconds_after_first second % 86_400 in
    in_row 11 8 (written_day days ++ codes "T") (written_time rest)
    (in_row 10 1 (written_day days) (codes "T") (day_length days) (omega arith)) (time_length rest)
