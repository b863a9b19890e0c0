-- Numbers with no power of ten.
use Rattle.std.proofs.Common.{◌≡◌, ℕ, zero, suc, ◌+◌, ◌-◌, ◌*◌, ◌^◌, ◌<◌, ◌≤◌, Bool, true, false, inl, inr, List, [], ◌∷◌, ◌++◌, length, get_or, take, drop, Option, Some, None, Ok, pos, negsuc, ◌+ℤ◌, ◌-ℤ◌, refl, sym, ap, ◌∙◌, arith, pow-add, lit≤, length-append, append-nil}
use Rattle.std.specs.Prelude.{ok_or, ◌==◌, IfSome}
use Rattle.std.proofs.Math.Nat.{pow-le-pow_right, mul-le-mul_right}
use Rattle.std.proofs.lemmas.Bool.{cases_lt}
use Rattle.std.proofs.lemmas.Bool.Decides.{nat_tests}
use Rattle.std.proofs.lemmas.Int.{ints}
use Rattle.std.specs.Char.{is_ascii_digit, digit_value}
use Rattle.std.specs.Str.Parse.{digits_value, digits_value_after}
use Rattle.exact_fraction.specs.Number.{Rational, ratio, fits}
use Rattle.exact_fraction.specs.Number.{zero as nought}
use Rattle.exact_fraction.specs.Checked.{made}
use Rattle.exact_fraction.proofs.PublicLaws.{lowest_terms-of_same, lowest_terms-fits}
use Rattle.num_text.specs.declared.error.NumberFault.TheVariants.{TooLarge}
use Rattle.num_text.specs.Fields.{leading_digits, past_digits, is_end}
use Rattle.num_text.specs.Numbers.{is_negative, past_sign, number_of, signed, spelling_of, spelled, bounded, in_bounds, significand, end_zeros}
use Rattle.num_text.proofs.Digits.{ten_pos, after_append, digit_value-ascii}
use Rattle.num_text.proofs.Zeros.{value_scaled, length-without}
use Rattle.num_text.proofs.Bounds.{bounded-zero, bounded-in, scaled-up, scaled-down, made-in_bounds}
use Rattle.num_text.proofs.ValueTrips.{signed_times}
use Rattle.num_text.proofs.Within.{whole_is}
use Rattle.num_text.proofs.Numerals.{front_back}

-- ---- one more digit behind a number
after_next : (front : ℕ) (text : List ℕ) (i : ℕ) → i < length text → is_ascii_digit (get_or text i 0) ≡ true → digits_value_after 10 front (take (suc i) text) ≡ digits_value_after 10 front (take i text) * 10 + (get_or text i 0 - 48)
after_next front [] i within e = absurd (omega arith)
after_next front (byte ∷ bytes) zero within e = ap (λ d. front * 10 + d) (digit_value-ascii byte e).0
after_next front (byte ∷ bytes) (suc i) within e = after_next (front * 10 + digit_value byte) bytes i (omega arith) e

pub after-next : (front : ℕ) (text : List ℕ) (i : ℕ) → i < length text → is_ascii_digit (get_or text i 0) ≡ true → digits_value_after 10 front (take (i + 1) text) ≡ digits_value_after 10 front (take i text) * 10 + (get_or text i 0 - 48)
after-next front text i within e = let next : i + 1 ≡ suc i = omega arith in rw next (after_next front text i within e)

-- ---- the significand and the power of ten of digits
same_ratio : (negative : Bool) (a b c d : ℕ) → 0 < b → 0 < d → a * d ≡ c * b → ratio (signed negative a) b ≡ ratio (signed negative c) d
same_ratio negative a b c d p q e = lowest_terms-of_same (signed negative a) (signed negative c) b d p q (signed_times negative a d c b e)

nought_fits : in_bounds nought ≡ Ok nought
nought_fits =
    let known : fits (ratio (pos 0) 1) ≡ true = lowest_terms-fits (pos 0) 1 (omega arith) (omega arith) (omega arith) in
    let same = rw (whole_is 0) at known in
    rw same refl

plus_nothing : (places : ℕ) → in_bounds (ratio (pos 0) (10 ^ places)) ≡ Ok nought
plus_nothing places = ap in_bounds (same_ratio false 0 (10 ^ places) 0 1 (ten_pos places) (omega arith) (omega arith) ∙ whole_is 0) ∙ nought_fits

nothing : (negative : Bool) (places : ℕ) → in_bounds (ratio (signed negative 0) (10 ^ places)) ≡ Ok nought
nothing true places = plus_nothing places
nothing false places = plus_nothing places

up : (negative : Bool) (size ends places power : ℕ) → 0 < size → power ≤ 18 → ends ≡ places + power → bounded negative size (pos power) ≡ in_bounds (ratio (signed negative (size * 10 ^ ends)) (10 ^ places))
up negative size ends places power some few is =
    let sum : 10 ^ ends ≡ 10 ^ places * 10 ^ power = ap (λ k. 10 ^ k) is ∙ pow-add 10 places power in
    let grown : size * 10 ^ ends ≡ size * (10 ^ places * 10 ^ power) = ap (λ x. size * x) sum in
    let same : size * 10 ^ power * 10 ^ places ≡ size * 10 ^ ends * 1 = omega arith in
    bounded-in negative size (pos power) some (omega (arith, ints)) (omega (arith, ints))
    ∙ ap in_bounds (scaled-up negative size (pos power) (omega (arith, ints))
    ∙ same_ratio negative (size * 10 ^ power) 1 (size * 10 ^ ends) (10 ^ places) (omega arith) (ten_pos places) same)

down : (negative : Bool) (size ends places power : ℕ) → 0 < size → power < 18 → places ≡ ends + suc power → bounded negative size (negsuc power) ≡ in_bounds (ratio (signed negative (size * 10 ^ ends)) (10 ^ places))
down negative size ends places power some few is =
    let sum : 10 ^ places ≡ 10 ^ ends * 10 ^ suc power = ap (λ k. 10 ^ k) is ∙ pow-add 10 ends (suc power) in
    let grown : size * 10 ^ places ≡ size * (10 ^ ends * 10 ^ suc power) = ap (λ x. size * x) sum in
    let same : size * 10 ^ places ≡ size * 10 ^ ends * 10 ^ suc power = omega arith in
    bounded-in negative size (negsuc power) some (omega (arith, ints)) (omega (arith, ints))
    ∙ ap in_bounds (scaled-down negative size (negsuc power) (omega (arith, ints))
    ∙ same_ratio negative size (10 ^ suc power) (size * 10 ^ ends) (10 ^ places) (ten_pos (suc power)) (ten_pos places) same)

few_zeros : (size ends : ℕ) → 0 < size → size * 10 ^ ends < 2 ^ 63 → ends ≤ 18
few_zeros size ends some small = elim (cases_lt 18 ends) [
  | inl many ↦
      let most : 10 ^ 19 ≤ 10 ^ ends = pow-le-pow_right (lit≤ tt) many in
      let grown : 1 * 10 ^ ends ≤ size * 10 ^ ends = mul-le-mul_right (10 ^ ends) some in
      absurd (omega arith)
  | inr few ↦ few
]

power_up : (places ends power : ℕ) → ends ≡ places + power → pos 0 -ℤ pos places +ℤ pos ends ≡ pos power
power_up places ends power is = omega (arith, ints)

power_down : (places ends power : ℕ) → places ≡ ends + suc power → pos 0 -ℤ pos places +ℤ pos ends ≡ negsuc power
power_down places ends power is = omega (arith, ints)

by_size : (negative : Bool) (size ends places : ℕ) → places ≤ 18 → size * 10 ^ ends < 2 ^ 63 → bounded negative size (pos 0 -ℤ pos places +ℤ pos ends) ≡ in_bounds (ratio (signed negative (size * 10 ^ ends)) (10 ^ places))
by_size negative zero ends places few small =
    let none : 0 * 10 ^ ends ≡ 0 = omega arith in
    bounded-zero negative 0 (pos 0 -ℤ pos places +ℤ pos ends) refl ∙ sym (nothing negative places) ∙ ap (λ n. in_bounds (ratio (signed negative n) (10 ^ places))) (sym none)
by_size negative (suc size) ends places few small =
    let some : 0 < suc size = omega arith in
    let most = few_zeros (suc size) ends some small in
    elim (cases_lt ends places) [
      | inl less ↦
          let is : places ≡ ends + suc (places - ends - 1) = omega arith in
          ap (λ p. bounded negative (suc size) p) (power_down places ends (places - ends - 1) is) ∙ down negative (suc size) ends places (places - ends - 1) some (omega arith) is
      | inr more ↦
          let is : ends ≡ places + (ends - places) = omega arith in
          ap (λ p. bounded negative (suc size) p) (power_up places ends (ends - places) is) ∙ up negative (suc size) ends places (ends - places) some (omega arith) is
    ]

-- digits that write less than 2^63, at most 18 of them behind the point
pub plain-spelled : (negative : Bool) (whole behind : List ℕ) (number places : ℕ) (q : Rational) → length behind ≡ places → digits_value 10 (whole ++ behind) ≡ number → number < 2 ^ 63 → places ≤ 18 → made (signed negative number) (pos (10 ^ places)) ≡ Some q → spelled (Some (record { negative = negative; whole = whole; behind = behind; exponent = pos 0 })) ≡ Ok q
unfolding spelled
plain-spelled negative whole behind number places q long is small few e =
    let digits : List ℕ = whole ++ behind in
    let short = length-without digits in
    let value : digits_value 10 digits ≡ significand digits * 10 ^ end_zeros digits = value_scaled digits (end_zeros digits) (omega arith) in
    let same : significand digits * 10 ^ end_zeros digits ≡ number = sym value ∙ is in
    let held : Ok q ≡ in_bounds (ratio (signed negative number) (10 ^ places)) = ap (λ m. ok_or m TooLarge) (sym e) ∙ made-in_bounds (signed negative number) (pos (10 ^ places)) (10 ^ places) refl (ten_pos places) in
    ap (λ k. bounded negative (significand digits) (pos 0 -ℤ pos k +ℤ pos (end_zeros digits))) long
    ∙ by_size negative (significand digits) (end_zeros digits) places few (omega arith)
    ∙ ap (λ n. in_bounds (ratio (signed negative n) (10 ^ places))) same ∙ sym held

-- ---- the texts
end-some : (text : List ℕ) → 1 ≤ length text → is_end text ≡ false
end-some [] some = absurd (omega arith)
end-some (byte ∷ bytes) some = refl

pub spelling-whole : (negative : Bool) (text : List ℕ) → past_digits text ≡ [] → 1 ≤ length text → spelling_of negative text ≡ Some (record { negative = negative; whole = leading_digits text; behind = []; exponent = pos 0 })
unfolding spelling_of
spelling-whole negative text ended some =
    let all = rw ended at (front_back text) in
    let test : is_end (leading_digits text ++ []) ≡ false = ap is_end all ∙ end-some text some in
    rw ended (rw test refl)

pub spelling-point : (negative : Bool) (text behind : List ℕ) → past_digits text ≡ 46 ∷ behind → past_digits behind ≡ [] → 2 ≤ length text → spelling_of negative text ≡ Some (record { negative = negative; whole = leading_digits text; behind = leading_digits behind; exponent = pos 0 })
unfolding spelling_of
spelling-point negative text behind point ended some =
    let all = rw point at (front_back text) in
    let rest = rw ended at (front_back behind) in
    let long = length-append (leading_digits text) (46 ∷ behind) in
    let long_is = ap length all in
    let short = ap length rest in
    let ends = length-append (leading_digits behind) [] in
    let both = length-append (leading_digits text) (leading_digits behind) in
    let test : is_end (leading_digits text ++ leading_digits behind) ≡ false = end-some (leading_digits text ++ leading_digits behind) (omega arith) in
    rw (point, ended) (rw test refl)

-- all digits of a text whose point they end behind
all-behind : (behind : List ℕ) → past_digits behind ≡ [] → length (leading_digits behind) ≡ length behind
all-behind behind ended =
    let rest = rw ended at (front_back behind) in
    let short = ap length rest in
    let long = length-append (leading_digits behind) [] in
    omega arith

-- a text that begins with a point
point-at : (text : List ℕ) → 1 ≤ length text → get_or text 0 0 ≡ 46 → text ≡ 46 ∷ drop 1 text
point-at [] some e = absurd (omega arith)
point-at (byte ∷ bytes) some e = ap (λ b. b ∷ bytes) e

pub none-left : (text : List ℕ) → (length text == 0) ≡ true → text ≡ []
none-left [] e = refl
none-left (byte ∷ bytes) e = absurd (grind (arith, nat_tests))

pub some-left : (text : List ℕ) → (length text == 0) ≡ false → 1 ≤ length text
some-left text e = grind (arith, nat_tests)

-- a number of digits, so many of them behind the point
abbrev IsPlain : Bool → ℕ → ℕ → Rational → Type 0
IsPlain negative number places q =
    (whole behind : List ℕ) → length behind ≡ places → digits_value 10 (whole ++ behind) ≡ number → spelled (Some (record { negative = negative; whole = whole; behind = behind; exponent = pos 0 })) ≡ Ok q

if_some-then : (P Q : Rational → Type 0) (found : Option Rational) → ((q : Rational) → P q → Q q) → IfSome found P → IfSome found Q
if_some-then P Q None next known = tt
if_some-then P Q (Some q) next known = next q known

-- a text of digits alone
pub plain-whole : (text digits rest : List ℕ) (number : ℕ) (found : Option Rational) → digits ≡ past_sign text → rest ≡ past_digits digits → rest ≡ [] → 1 ≤ length digits → number ≡ digits_value_after 10 0 (leading_digits digits) → IfSome found (IsPlain (is_negative text) number 0) → IfSome found (λ q. number_of text ≡ Ok q)
plain-whole text digits rest number found sign past ended some is known =
    let spelling = spelling-whole (is_negative text) digits (sym past ∙ ended) some in
    let value : digits_value 10 (leading_digits digits ++ []) ≡ number = ap (λ ds. digits_value 10 ds) (append-nil (leading_digits digits)) ∙ sym is in
    let reading : number_of text ≡ spelled (spelling_of (is_negative text) digits) = ap (λ ds. spelled (spelling_of (is_negative text) ds)) (sym sign) in
    if_some-then _ (λ q. number_of text ≡ Ok q) found (λ q each. reading ∙ ap spelled spelling ∙ each (leading_digits digits) [] refl value) known

-- a text of digits with a point
pub plain-point : (text digits rest behind left : List ℕ) (front number places : ℕ) (found : Option Rational) → digits ≡ past_sign text → rest ≡ past_digits digits → 1 ≤ length rest → get_or rest 0 0 ≡ 46 → behind ≡ drop 1 rest → 2 ≤ length digits → front ≡ digits_value_after 10 0 (leading_digits digits) → left ≡ past_digits behind → left ≡ [] → number ≡ digits_value_after 10 front (leading_digits behind) → places ≡ length behind → IfSome found (IsPlain (is_negative text) number places) → IfSome found (λ q. number_of text ≡ Ok q)
plain-point text digits rest behind left front number places found sign past more point next some front_is left_is none is many known =
    let at_point : past_digits digits ≡ 46 ∷ behind = sym past ∙ point-at rest more point ∙ ap (λ bytes. 46 ∷ bytes) (sym next) in
    let ended : past_digits behind ≡ [] = sym left_is ∙ none in
    let spelling = spelling-point (is_negative text) digits behind at_point ended some in
    let value : digits_value 10 (leading_digits digits ++ leading_digits behind) ≡ number = after_append 0 (leading_digits digits) (leading_digits behind) ∙ ap (λ n. digits_value_after 10 n (leading_digits behind)) (sym front_is) ∙ sym is in
    let long : length (leading_digits behind) ≡ places = all-behind behind ended ∙ sym many in
    let reading : number_of text ≡ spelled (spelling_of (is_negative text) digits) = ap (λ ds. spelled (spelling_of (is_negative text) ds)) (sym sign) in
    if_some-then _ (λ q. number_of text ≡ Ok q) found (λ q each. reading ∙ ap spelled spelling ∙ each (leading_digits digits) (leading_digits behind) long value) known
