-- The bytes of written numbers and moments come behind the comma, so that they are no space, no
-- comma and no line feed.
use Rattle.std.proofs.Common.{◌≡◌, ℕ, zero, suc, ◌+◌, ◌*◌, ◌/◌, ◌%◌, ◌^◌, ◌<◌, ◌≤◌, Bool, true, false, cond, ◌&&◌, ◌==◌, List, [], ◌∷◌, ◌++◌, codes, refl, ap, ◌∙◌, arith, ℤ, pos, negsuc}
use Rattle.std.specs.Prelude.{nat_lt, All, unsigned_abs, decimal}
use Rattle.std.specs.List.{list_all}
use Rattle.std.specs.Fmt.{digits, digits_onto, digit_glyph}
use Rattle.std.proofs.lemmas.Bool.{and_parts}
use Rattle.std.proofs.lemmas.Bool.Decides.{nat_tests}
use Rattle.std.proofs.lemmas.List.Elements.{All-nil, All-cons}
use Rattle.std.proofs.lemmas.List.Folds.{list_all-append}
use Rattle.exact_fraction.specs.Number.{Rational, den}
use Rattle.num_text.specs.CivilDays.{year_at, month_at, day_at}
use Rattle.num_text.specs.Numbers.{without_end_zeros}
use Rattle.num_text.specs.Values.{written_sign, written_behind, written_units, written_size, written_value}
use Rattle.num_text.specs.Written.{places, written_day, written_time, written_moment, seconds_after_first}
use Rattle.num_text.specs.Bytes.{zero_digit}

abbrev pub is_high : ℕ → Bool
is_high byte = nat_lt 44 byte

pub record AreHigh (text : List ℕ) : Type 0 where
  pub all : list_all is_high text ≡ true

-- none of them is a byte up to the comma
not_high : (c byte : ℕ) → c ≤ 44 → nat_lt 44 byte ≡ true → (byte == c) ≡ false
not_high c byte low high = grind (arith, nat_tests)

none_by : (c : ℕ) → c ≤ 44 → (text : List ℕ) → list_all is_high text ≡ true → All (λ byte. (byte == c) ≡ false) text
none_by c low [] e = All-nil (λ byte. (byte == c) ≡ false)
none_by c low (byte ∷ text) e =
    let parts = and_parts (nat_lt 44 byte) (list_all is_high text) e in
    All-cons (λ b. (b == c) ≡ false) byte text (not_high c byte low parts.0) (none_by c low text parts.1)

pub without : (c : ℕ) → c ≤ 44 → (text : List ℕ) → AreHigh text → All (λ byte. (byte == c) ≡ false) text
without c low text high = none_by c low text high.all

-- ---- joined texts
both_true : (a b : Bool) → a ≡ true → b ≡ true → (a && b) ≡ true
both_true a b e f = ap (λ x. x && b) e ∙ f

pub joined : (one other : List ℕ) → AreHigh one → AreHigh other → AreHigh (one ++ other)
joined one other h k = record {
  all = list_all-append is_high one other ∙ both_true (list_all is_high one) (list_all is_high other) h.all k.all;
}

pub empty : AreHigh []
empty = record { all = refl }

-- ---- digits
digit_high : (n : ℕ) → nat_lt 44 (48 + n) ≡ true
digit_high n = grind (arith, nat_tests)

later_high : (n m : ℕ) → 44 < m → nat_lt 44 (m + n) ≡ true
later_high n m past = grind (arith, nat_tests)

glyph_by : (digit upper : Bool) (n : ℕ) → nat_lt 44 (cond digit (48 + n) (cond upper (55 + n) (87 + n))) ≡ true
glyph_by true upper n = digit_high n
glyph_by false true n = later_high n 55 (omega arith)
glyph_by false false n = later_high n 87 (omega arith)

onto_high : (k base : ℕ) (upper : Bool) (n : ℕ) (behind : List ℕ) → list_all is_high behind ≡ true
    → list_all is_high (digits_onto k base upper n behind) ≡ true
onto_high zero base upper n behind e = e
onto_high (suc k) base upper n behind e =
    by_test (n / base == 0) (onto_high k base upper (n / base) (digit_glyph upper (n % base) ∷ behind) more)
  where
    more : list_all is_high (digit_glyph upper (n % base) ∷ behind) ≡ true
    more = both_true (nat_lt 44 (digit_glyph upper (n % base))) (list_all is_high behind) (glyph_by (nat_lt (n % base) 10) upper (n % base)) e

    by_test : (b : Bool)
        → list_all is_high (digits_onto k base upper (n / base) (digit_glyph upper (n % base) ∷ behind)) ≡ true
        → list_all is_high
        (cond b (digit_glyph upper (n % base) ∷ behind) (digits_onto k base upper (n / base) (digit_glyph upper (n % base) ∷ behind)))
        ≡ true
    by_test true again = more
    by_test false again = again

pub of_decimal : (n : ℕ) → AreHigh (decimal n)
unfolding digits
of_decimal n = record { all = onto_high 64 10 false n [] refl }

one_digit : (n : ℕ) → AreHigh ((zero_digit + n) ∷ [])
one_digit n = record { all = both_true (nat_lt 44 (48 + n)) true (digit_high n) refl }

pub of_places : (count n : ℕ) → AreHigh (places count n)
unfolding places
of_places zero n = empty
of_places (suc count) n =
    joined (places count (n / 10)) ((zero_digit + n % 10) ∷ []) (of_places count (n / 10)) (one_digit (n % 10))

-- ---- decimals without the zeros at their end
kept : (digits : List ℕ) → list_all is_high digits ≡ true → list_all is_high (without_end_zeros digits) ≡ true
unfolding without_end_zeros
kept [] e = refl
kept (digit ∷ digits) e =
    by_test (list_all (λ d. d == zero_digit) (digit ∷ digits)) (and_parts (nat_lt 44 digit) (list_all is_high digits) e) (kept digits)
  where
    by_test : (b : Bool) → (nat_lt 44 digit ≡ true) × (list_all is_high digits ≡ true)
        → (list_all is_high digits ≡ true → list_all is_high (without_end_zeros digits) ≡ true)
        → list_all is_high (cond b [] (digit ∷ without_end_zeros digits)) ≡ true
    by_test true parts again = refl
    by_test false parts again = both_true (nat_lt 44 digit) (list_all is_high (without_end_zeros digits)) parts.0 (again parts.1)

behind_point : (digits : List ℕ) → AreHigh digits → AreHigh (written_behind digits)
behind_point [] h = empty
behind_point (digit ∷ digits) h = record { all = h.all }

-- ---- written values
of_units : (units : ℕ) → AreHigh (written_units units)
unfolding written_units
of_units units =
    joined (decimal (units / 10 ^ 18)) (written_behind (without_end_zeros (places 18 (units % 10 ^ 18))))
    (of_decimal (units / 10 ^ 18))
    (behind_point (without_end_zeros (places 18 (units % 10 ^ 18)))
    (record { all = kept (places 18 (units % 10 ^ 18)) (of_places 18 (units % 10 ^ 18)).all }))

of_size : (size below : ℕ) → AreHigh (written_size size below)
unfolding written_size
of_size size below = by_test (10 ^ 18 % below == 0)
  where
    by_test : (b : Bool) → AreHigh (cond b (written_units (size * (10 ^ 18 / below))) (decimal size ++ codes "/" ++ decimal below))
    by_test true = of_units (size * (10 ^ 18 / below))
    by_test false = joined (decimal size ++ codes "/") (decimal below)
        (joined (decimal size) (codes "/") (of_decimal size) (record { all = refl })) (of_decimal below)

of_sign : (n : ℤ) → AreHigh (written_sign n)
of_sign (pos n) = empty
of_sign (negsuc n) = record { all = refl }

pub of_value : (q : Rational) → AreHigh (written_value q)
unfolding written_value
of_value q =
    joined (written_sign q.num) (written_size (unsigned_abs q.num) (den q)) (of_sign q.num)
    (of_size (unsigned_abs q.num) (den q))

-- ---- written moments
of_day : (days : ℕ) → AreHigh (written_day days)
of_day days =
    joined (places 4 (year_at days) ++ codes "-" ++ places 2 (month_at days) ++ codes "-") (places 2 (day_at days))
    (joined (places 4 (year_at days) ++ codes "-" ++ places 2 (month_at days)) (codes "-")
    (joined (places 4 (year_at days) ++ codes "-") (places 2 (month_at days))
    (joined (places 4 (year_at days)) (codes "-") (of_places 4 (year_at days)) (record { all = refl }))
    (of_places 2 (month_at days))) (record { all = refl }))
    (of_places 2 (day_at days))

of_time : (second : ℕ) → AreHigh (written_time second)
of_time second =
    joined (places 2 (second / 3600) ++ codes ":" ++ places 2 (second / 60 % 60) ++ codes ":") (places 2 (second % 60))
    (joined (places 2 (second / 3600) ++ codes ":" ++ places 2 (second / 60 % 60)) (codes ":")
    (joined (places 2 (second / 3600) ++ codes ":") (places 2 (second / 60 % 60))
    (joined (places 2 (second / 3600)) (codes ":") (of_places 2 (second / 3600)) (record { all = refl }))
    (of_places 2 (second / 60 % 60))) (record { all = refl }))
    (of_places 2 (second % 60))

pub of_moment : (second : ℤ) → AreHigh (written_moment second)
unfolding written_moment
of_moment second =
    joined (written_day (seconds_after_first second / 86_400) ++ codes "T") (written_time (seconds_after_first second % 86_400))
    (joined (written_day (seconds_after_first second / 86_400)) (codes "T") (of_day (seconds_after_first second / 86_400)) (record { all = refl }))
    (of_time (seconds_after_first second % 86_400))
