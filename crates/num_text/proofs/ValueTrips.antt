-- A written value is read as the number that it was.
use Rattle.std.proofs.Common.{◌≡◌, ℕ, zero, suc, ◌+◌, ◌-◌, ◌*◌, ◌/◌, ◌%◌, ◌^◌, ◌<◌, ◌≤◌, Bool, true, false, cond, List, [], ◌∷◌, ◌++◌, length, codes, Some, None, refl, sym, ap, ◌∙◌, arith, append_assoc, ℤ, pos, negsuc, neg_ℤ, ◌*ℤ◌, pow-add, div-add-mod', div-le_self}
use Rattle.std.specs.Prelude.{◌==◌, nat_le, unsigned_abs, decimal}
use Rattle.std.proofs.lemmas.List.{append-nil}
use Rattle.std.proofs.lemmas.Bool.Decides.{nat_tests}
use Rattle.std.proofs.lemmas.Int.{ints}
use Rattle.std.proofs.lemmas.Fmt.{decimal_is_IsNumeral}
use Rattle.std.proofs.lemmas.Str.Parse.{digit_from_value}
use Rattle.std.proofs.Math.Nat.{eq_of_mul-eq-mul_right, mul-le-mul_left}
use Rattle.std.specs.List.{list_all}
use Rattle.std.specs.Char.{is_ascii_digit}
use Rattle.std.specs.Str.Parse.{digits_value, AllDigits}
use Rattle.exact_fraction.specs.Number.{Rational, den, ratio, fits, IsNumber}
use Rattle.exact_fraction.specs.Checked.{made, fitting}
use Rattle.exact_fraction.proofs.PublicLaws.{lowest_terms-positive, lowest_terms-itself, lowest_terms-of_same}
use Rattle.std.proofs.Math.IntN.{negsuc-*ℤ-pos}
use Rattle.num_text.specs.Fields.{field, past}
use Rattle.num_text.specs.Pointed.{decimals}
use Rattle.num_text.specs.Numbers.{without_end_zeros, is_negative, signed}
use Rattle.num_text.specs.Written.{places}
use Rattle.num_text.specs.Values.{written_sign, written_behind, written_units, written_size, written_value, past_minus, with_decimals, spelled_value}
use Rattle.num_text.proofs.Digits.{ten_pos}
use Rattle.num_text.proofs.Cuts.{is_apart, cut, field-cut}
use Rattle.num_text.proofs.Places.{length-places, places-digits, digits_value-places}
use Rattle.num_text.proofs.Zeros.{value_scaled, length-without}
use Rattle.num_text.proofs.WrittenDecimals.{held-small, length-decimal}

-- ---- what decimal digits are read as
pub all_ascii : (digits : List ℕ) → AllDigits 10 digits → list_all is_ascii_digit digits ≡ true
all_ascii [] e = refl
all_ascii (digit ∷ digits) e =
    let range = digit_from_value digit e.0 in
    let here : is_ascii_digit digit ≡ true = grind (arith, nat_tests) in
    rw here (all_ascii digits e.1)

pub record IsWrittenWhole (n : ℕ) : Type 0 where
  pub digits : list_all is_ascii_digit (decimal n) ≡ true
  pub value : digits_value 10 (decimal n) ≡ n
  pub some : 1 ≤ length (decimal n)
  pub few : length (decimal n) ≤ 19

written_whole : (n : ℕ) → n < 2 ^ 63 → IsWrittenWhole n
written_whole n small =
    let known = decimal_is_IsNumeral n (omega arith) in
    record { digits = all_ascii (decimal n) known.0.1; value = known.1; some = known.0.0; few = length-decimal n small }

field-decimal : (n : ℕ) (rest : List ℕ) → n < 2 ^ 63 → is_apart rest ≡ true → field 1 19 (decimal n ++ rest) ≡ Some (record { number = n; rest = rest })
field-decimal n rest small apart =
    let whole = written_whole n small in
    let read = field-cut 1 19 (decimal n) rest whole.digits apart whole.some whole.few in
    rw whole.value at read

-- ---- the sign
abbrev is_below : ℤ → Bool
is_below (pos size) = false
is_below (negsuc size) = true

no_minus : (digits rest : List ℕ) → list_all is_ascii_digit digits ≡ true → 1 ≤ length digits → (is_negative (digits ++ rest) ≡ false) × (past_minus (digits ++ rest) ≡ digits ++ rest)
no_minus [] rest e some = absurd (omega arith)
no_minus (digit ∷ digits) rest e some =
    let here : is_ascii_digit digit ≡ true = grind arith in
    let none : (digit == 45) ≡ false = grind (arith, nat_tests) in
    (none, rw none refl)

signs : (n : ℤ) (digits rest : List ℕ) → list_all is_ascii_digit digits ≡ true → 1 ≤ length digits → (is_negative (written_sign n ++ (digits ++ rest)) ≡ is_below n) × (past_minus (written_sign n ++ (digits ++ rest)) ≡ digits ++ rest)
signs (pos size) digits rest e some = no_minus digits rest e some
signs (negsuc size) digits rest e some = (refl, refl)

signed_back : (n : ℤ) → signed (is_below n) (unsigned_abs n) ≡ n
signed_back (pos size) = refl
signed_back (negsuc size) = refl

-- ---- the number that is made
made_from : (q : Rational) (below : ℕ) (n : ℤ) → 0 < below → ratio n below ≡ q → fits q ≡ true → made n (pos below) ≡ Some q
unfolding made fitting
made_from q zero n some is fit = absurd (omega arith)
made_from q (suc below) n some is fit = rw is (rw fit refl)

pub made_back : (q : Rational) → IsNumber q → made q.num (pos (den q)) ≡ Some q
made_back q held = made_from q (den q) q.num (lowest_terms-positive q) (lowest_terms-itself q held.lowest) held.fitting

-- ---- as a fraction
pub fraction_back : (q : Rational) → IsNumber q → spelled_value (written_sign q.num ++ ((decimal (unsigned_abs q.num) ++ codes "/") ++ decimal (den q))) ≡ Some q
unfolding spelled_value
fraction_back q held =
    let small = held-small q held in
    let num = written_whole (unsigned_abs q.num) small.num in
    let rest : List ℕ = 47 ∷ decimal (den q) in
    let sign = signs q.num (decimal (unsigned_abs q.num)) rest num.digits num.some in
    let front = field-decimal (unsigned_abs q.num) rest small.num refl in
    let below = rw (append-nil (decimal (den q))) at (field-decimal (den q) [] small.below refl) in
    rw append_assoc (rw (sign.0, sign.1) (rw front (rw below (rw (signed_back q.num) (made_back q held)))))

-- ---- as a decimal
by_all : (digit : ℕ) (digits : List ℕ) (all : Bool) → is_ascii_digit digit ≡ true → list_all is_ascii_digit (without_end_zeros digits) ≡ true → list_all is_ascii_digit (cond all [] (digit ∷ without_end_zeros digits)) ≡ true
by_all digit digits true here rest = refl
by_all digit digits false here rest = rw here rest

without-digits : (digits : List ℕ) → list_all is_ascii_digit digits ≡ true → list_all is_ascii_digit (without_end_zeros digits) ≡ true
unfolding without_end_zeros
without-digits [] e = refl
without-digits (digit ∷ digits) e =
    let here : is_ascii_digit digit ≡ true = grind arith in
    let rest : list_all is_ascii_digit digits ≡ true = grind arith in
    by_all digit digits (list_all (λ d. d == 48) (digit ∷ digits)) here (without-digits digits rest)

decimals-written : (digits : List ℕ) → list_all is_ascii_digit digits ≡ true → length digits ≤ 18 → decimals 18 (written_behind digits) ≡ Some digits
unfolding decimals
decimals-written [] e few = refl
decimals-written (digit ∷ digits) e few =
    let known = cut (digit ∷ digits) [] e refl in
    let front = rw (append-nil (digit ∷ digits)) at known.front in
    let back = rw (append-nil (digit ∷ digits)) at known.back in
    let least : nat_le 1 (length (digit ∷ digits)) ≡ true = grind (arith, nat_tests) in
    let most : nat_le (length (digit ∷ digits)) 18 ≡ true = grind (arith, nat_tests) in
    rw (front, back, least, most) refl

behind_apart : (digits : List ℕ) → (is_apart (written_behind digits) ≡ true) × (past 47 (written_behind digits) ≡ None)
behind_apart [] = (refl, refl)
behind_apart (digit ∷ digits) = (refl, refl)

-- the number of the whole part and the decimals
same_number : (num below scale units whole left size power tail : ℕ) → units ≡ num * scale → scale * below ≡ 10 ^ 18 → units ≡ whole * 10 ^ 18 + left → left ≡ size * tail → power * tail ≡ 10 ^ 18 → 0 < tail → (whole * power + size) * below ≡ num * power
same_number num below scale units whole left size power tail is split parts behind both some =
    let row = ap (λ x. whole * x) both in
    let one : (whole * power + size) * tail ≡ num * scale = omega arith in
    let two = ap (λ x. x * below) one in
    let three = ap (λ x. num * x) (split ∙ sym both) in
    eq_of_mul-eq-mul_right tail some _ _ (omega arith)

minus_product : (a b : ℕ) → neg_ℤ (pos a) *ℤ pos b ≡ neg_ℤ (pos (a * b))
minus_product zero b = omega (arith, ints)
minus_product (suc a) b = negsuc-*ℤ-pos a b

minus_times : (a b c d : ℕ) → a * b ≡ c * d → neg_ℤ (pos a) *ℤ pos b ≡ neg_ℤ (pos c) *ℤ pos d
minus_times a b c d e = minus_product a b ∙ ap (λ n. neg_ℤ (pos n)) e ∙ sym (minus_product c d)

plus_times : (a b c d : ℕ) → a * b ≡ c * d → pos a *ℤ pos b ≡ pos c *ℤ pos d
plus_times a b c d e = omega (arith, ints)

pub signed_times : (negative : Bool) (a b c d : ℕ) → a * b ≡ c * d → signed negative a *ℤ pos b ≡ signed negative c *ℤ pos d
signed_times true a b c d e = minus_times a b c d e
signed_times false a b c d e = plus_times a b c d e

-- the number that a sign, a whole part and decimals write
with_decimals_back : (q : Rational) (whole : ℕ) (behind : List ℕ) → IsNumber q → (whole * 10 ^ length behind + digits_value 10 behind) * den q ≡ unsigned_abs q.num * 10 ^ length behind → with_decimals (is_below q.num) whole behind ≡ Some q
with_decimals_back q whole behind held same =
    let n : ℤ = signed (is_below q.num) (whole * 10 ^ length behind + digits_value 10 behind) in
    let cross : n *ℤ pos (den q) ≡ q.num *ℤ pos (10 ^ length behind) = signed_times (is_below q.num) _ _ _ _ same ∙ ap (λ m. m *ℤ pos (10 ^ length behind)) (signed_back q.num) in
    let is = lowest_terms-of_same n q.num (10 ^ length behind) (den q) (ten_pos (length behind)) (lowest_terms-positive q) cross ∙ lowest_terms-itself q held.lowest in
    made_from q (10 ^ length behind) n (ten_pos (length behind)) is held.fitting

-- the decimals that are written
pub record IsBehind (units : ℕ) (behind : List ℕ) : Type 0 where
  pub digits : list_all is_ascii_digit behind ≡ true
  pub few : length behind ≤ 18
  pub left : units % 10 ^ 18 ≡ digits_value 10 behind * 10 ^ (18 - length behind)
  pub power : 10 ^ length behind * 10 ^ (18 - length behind) ≡ 10 ^ 18

behind_is : (units : ℕ) (behind : List ℕ) → behind ≡ without_end_zeros (places 18 (units % 10 ^ 18)) → IsBehind units behind
behind_is units behind is =
    let small : units % 10 ^ 18 < 10 ^ 18 = omega arith in
    let long = length-places 18 (units % 10 ^ 18) in
    let short = length-without (places 18 (units % 10 ^ 18)) in
    let digits = without-digits (places 18 (units % 10 ^ 18)) (places-digits 18 (units % 10 ^ 18)) in
    let few : length behind ≤ 18 = rw is (omega arith) in
    let tail : ℕ = 18 - length behind in
    let ends : length (without_end_zeros (places 18 (units % 10 ^ 18))) + tail ≡ length (places 18 (units % 10 ^ 18)) = omega (arith, ap length is) in
    let value = value_scaled (places 18 (units % 10 ^ 18)) tail ends in
    let read = digits_value-places 18 (units % 10 ^ 18) small in
    let together : length behind + tail ≡ 18 = omega arith in
    record {
      digits = rw is digits;
      few = few;
      left = sym read ∙ value ∙ ap (λ ds. digits_value 10 ds * 10 ^ tail) (sym is);
      power = sym (pow-add 10 (length behind) tail) ∙ ap (λ k. 10 ^ k) together;
    }

decimal_back : (q : Rational) (units : ℕ) (behind : List ℕ) → IsNumber q → units ≡ unsigned_abs q.num * (10 ^ 18 / den q) → 10 ^ 18 / den q * den q ≡ 10 ^ 18 → IsBehind units behind → units / 10 ^ 18 < 2 ^ 63 → spelled_value (written_sign q.num ++ (decimal (units / 10 ^ 18) ++ written_behind behind)) ≡ Some q
unfolding spelled_value
decimal_back q units behind held is split known small =
    let whole = written_whole (units / 10 ^ 18) small in
    let apart = behind_apart behind in
    let sign = signs q.num (decimal (units / 10 ^ 18)) (written_behind behind) whole.digits whole.some in
    let front = field-decimal (units / 10 ^ 18) (written_behind behind) small apart.0 in
    let read = decimals-written behind known.digits known.few in
    let parts : units ≡ units / 10 ^ 18 * 10 ^ 18 + units % 10 ^ 18 = omega arith in
    let same = same_number (unsigned_abs q.num) (den q) (10 ^ 18 / den q) units (units / 10 ^ 18) (units % 10 ^ 18) (digits_value 10 behind) (10 ^ length behind) (10 ^ (18 - length behind)) is split parts known.left known.power (ten_pos (18 - length behind)) in
    rw (sign.0, sign.1) (rw front (rw (apart.1, read) (with_decimals_back q (units / 10 ^ 18) behind held same)))

-- ---- in one form or the other
value_by : (q : Rational) (tells : Bool) → IsNumber q → (10 ^ 18 % den q == 0) ≡ tells → spelled_value (written_sign q.num ++ cond tells (written_units (unsigned_abs q.num * (10 ^ 18 / den q))) ((decimal (unsigned_abs q.num) ++ codes "/") ++ decimal (den q))) ≡ Some q
unfolding written_units
value_by q false held e = fraction_back q held
value_by q true held e =
    let small = held-small q held in
    let some = lowest_terms-positive q in
    let none : 10 ^ 18 % den q ≡ 0 = grind (arith, nat_tests) in
    let split : 10 ^ 18 / den q * den q ≡ 10 ^ 18 = omega (arith, div-add-mod' (10 ^ 18) (den q)) in
    let few : 10 ^ 18 / den q ≤ 10 ^ 18 = div-le_self (10 ^ 18) (den q) in
    let units : ℕ = unsigned_abs q.num * (10 ^ 18 / den q) in
    let most : units ≤ unsigned_abs q.num * 10 ^ 18 = mul-le-mul_left (unsigned_abs q.num) few in
    decimal_back q units (without_end_zeros (places 18 (units % 10 ^ 18))) held refl split (behind_is units _ refl) (omega arith)

pub value_back : (q : Rational) → IsNumber q → spelled_value (written_value q) ≡ Some q
unfolding written_value written_size
value_back q held = value_by q (10 ^ 18 % den q == 0) held refl
