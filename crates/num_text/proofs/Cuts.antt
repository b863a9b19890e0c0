-- The fields that written digits are read as.
use Rattle.std.proofs.Common.{◌≡◌, ℕ, ◌^◌, ◌<◌, ◌≤◌, Bool, true, false, not, List, [], ◌∷◌, ◌++◌, length, Some, refl, ap, arith}
use Rattle.std.specs.Prelude.{nat_le, nat_lt}
use Rattle.std.proofs.lemmas.Bool.Decides.{nat_tests}
use Rattle.std.specs.List.{list_all}
use Rattle.std.specs.Char.{is_ascii_digit}
use Rattle.std.specs.Str.Parse.{digits_value}
use Rattle.num_text.specs.Fields.{leading_digits, past_digits, field, field_below}
use Rattle.num_text.specs.Written.{places}
use Rattle.num_text.proofs.Places.{length-places, places-digits, digits_value-places}

-- no digit stands at the head of a text
abbrev pub is_apart : List ℕ → Bool
is_apart [] = true
is_apart (byte ∷ bytes) = not (is_ascii_digit byte)

no_digits : (rest : List ℕ) → is_apart rest ≡ true → (leading_digits rest ≡ []) × (past_digits rest ≡ rest)
unfolding leading_digits past_digits
no_digits [] e = (refl, refl)
no_digits (byte ∷ bytes) e =
    let none : is_ascii_digit byte ≡ false = grind arith in
    (rw none refl, rw none refl)

-- digits, and what stands behind them
pub record IsCut (digits rest : List ℕ) : Type 0 where
  pub front : leading_digits (digits ++ rest) ≡ digits
  pub back : past_digits (digits ++ rest) ≡ rest

pub cut : (digits rest : List ℕ) → list_all is_ascii_digit digits ≡ true → is_apart rest ≡ true → IsCut digits rest
unfolding leading_digits past_digits
cut [] rest e apart = let none = no_digits rest apart in record { front = none.0; back = none.1 }
cut (digit ∷ digits) rest e apart =
    let here : is_ascii_digit digit ≡ true = grind arith in
    let more : list_all is_ascii_digit digits ≡ true = grind arith in
    let known = cut digits rest more apart in
    record { front = rw here (ap (λ front. digit ∷ front) known.front); back = rw here known.back }

-- the field of digits
pub field-cut : (least most : ℕ) (digits rest : List ℕ) → list_all is_ascii_digit digits ≡ true → is_apart rest ≡ true → least ≤ length digits → length digits ≤ most → field least most (digits ++ rest) ≡ Some (record { number = digits_value 10 digits; rest = rest })
unfolding field
field-cut least most digits rest e apart low high =
    let known = cut digits rest e apart in
    let lower : nat_le least (length digits) ≡ true = grind (arith, nat_tests) in
    let upper : nat_le (length digits) most ≡ true = grind (arith, nat_tests) in
    rw (known.front, known.back, lower, upper) refl

-- the field of written digits
pub field-places : (least most count number : ℕ) (rest : List ℕ) → number < 10 ^ count → is_apart rest ≡ true → least ≤ count → count ≤ most → field least most (places count number ++ rest) ≡ Some (record { number = number; rest = rest })
field-places least most count number rest small apart low high =
    let long = length-places count number in
    let read = field-cut least most (places count number) rest (places-digits count number) apart (omega arith) (omega arith) in
    rw (digits_value-places count number small) at read

pub field_below-places : (least most limit count number : ℕ) (rest : List ℕ) → number < 10 ^ count → number < limit → is_apart rest ≡ true → least ≤ count → count ≤ most → field_below least most limit (places count number ++ rest) ≡ Some (record { number = number; rest = rest })
unfolding field_below
field_below-places least most limit count number rest small less apart low high =
    let below : nat_lt number limit ≡ true = grind (arith, nat_tests) in
    rw (field-places least most count number rest small apart low high) (rw below refl)
