-- Decimals are read exactly from their parts.
use Rattle.std.specs.Prelude.{◌↔◌, ◌==◌, ◌&&◌, nat_le, option_and_then}
use Rattle.std.proofs.Common.{◌≡◌, ℕ, ◌*◌, ◌^◌, ◌<◌, ◌≤◌, Bool, true, false, cond, List, [], ◌∷◌, ◌++◌, length, Option, None, Some, refl, sym, ap, ap₂, subst, ◌∙◌, arith, append-nil, pos}
use Rattle.std.proofs.lemmas.Bool.Decides.{nat_tests}
use Rattle.std.specs.Str.Parse.{digits_value}
use Rattle.exact_fraction.specs.Number.{Rational}
use Rattle.num_text.specs.Fields.{leading_digits, past_digits, begins_with_digits, past, is_end}
use Rattle.num_text.specs.Pointed.{last_digits, decimals, pointed, pointed_up_to, decimal_up_to}
use Rattle.num_text.specs.NumberText.{AllDigits, IsDigits, point_text, digits_behind}
use Rattle.num_text.specs.DecimalText.{DecimalParts, AreDecimals, IsDecimalText, decimal_digits, decimal_scale, decimal_value, IsAtMost}
use Rattle.num_text.specs.TimeText.{IsDecimalUpTo}
use Rattle.num_text.proofs.Digits.{leading_digits-digits}
use Rattle.num_text.proofs.Cuts.{is_apart, cut}
use Rattle.num_text.proofs.Numerals.{front_back, ended}
use Rattle.num_text.proofs.Grammar.{then_some, cond_some, past_is}

same_some : {A : Type 0} (x y : A) → Some x ≡ Some y → x ≡ y
same_some x y e = cc

both : (a b : Bool) → (a && b) ≡ true → (a ≡ true) × (b ≡ true)
both true b e = (refl, e)
both false b e = absurd cc

-- ---- what a reading tells of the text
pub last_digits_is : (most : ℕ) (text digits : List ℕ) → last_digits most text ≡ Some digits → (text ≡ digits) × IsDigits 1 most digits
last_digits_is most text digits e =
    let known = cond_some (begins_with_digits 1 most text && is_end (past_digits text)) (leading_digits text) digits e in
    let tests = both (begins_with_digits 1 most text) (is_end (past_digits text)) known.0 in
    let same = same_some (leading_digits text) digits known.1 in
    let all : leading_digits text ≡ text = sym (append-nil (leading_digits text)) ∙ ap (λ r. leading_digits text ++ r) (sym (ended (past_digits text) tests.1)) ∙ front_back text in
    let low : 1 ≤ length (leading_digits text) = grind (arith, nat_tests) in
    let high : length (leading_digits text) ≤ most = grind (arith, nat_tests) in
    let digits_known : IsDigits 1 most (leading_digits text) = record { alone = leading_digits-digits text; at_least = low; at_most = high } in
    (sym all ∙ same, rw same at digits_known)

pub decimals_is : (text digits : List ℕ) → decimals 9 text ≡ Some digits → (b : Option (List ℕ)) × (text ≡ point_text b) × AreDecimals b × (digits_behind b ≡ digits)
unfolding decimals
decimals_is [] digits e = (None, refl, tt, same_some [] digits e)
decimals_is (byte ∷ bytes) digits e =
    let step = then_some (past 46 (byte ∷ bytes)) (λ behind. last_digits 9 behind) digits e in
    let known = last_digits_is 9 step.0 digits step.2 in
    (Some digits, past_is 46 (byte ∷ bytes) step.0 step.1 ∙ ap (λ r. 46 ∷ r) known.0, known.1, refl)

some_end : (xs : List ℕ) → is_end xs ≡ false → 1 ≤ length xs
some_end [] e = absurd cc
some_end (x ∷ xs) e = omega arith

decimal_with : (most : ℕ) (text digits : List ℕ) (q : Rational) → is_end (leading_digits text) ≡ false → decimals 9 (past_digits text) ≡ Some digits → pointed_up_to most (leading_digits text) digits ≡ Some q → IsDecimalUpTo most text q
decimal_with most text digits q some e f =
    let behind = decimals_is (past_digits text) digits e in
    let known = cond_some (nat_le (digits_value 10 (leading_digits text ++ digits)) (most * 10 ^ length digits)) (pointed (leading_digits text) digits) q f in
    let within : digits_value 10 (leading_digits text ++ digits) ≤ most * 10 ^ length digits = grind (arith, nat_tests) in
    let same = same_some (pointed (leading_digits text) digits) q known.1 in
    record {
      parts = record { whole = leading_digits text; behind = behind.0 };
      decimal = record {
        joined = sym (front_back text) ∙ ap (λ r. leading_digits text ++ r) behind.1;
        whole = leading_digits-digits text;
        some = some_end (leading_digits text) some;
        behind = behind.2;
      };
      at_most = rw behind.3 within;
      value = rw behind.3 same;
    }

by_end : (most : ℕ) (text : List ℕ) (q : Rational) (none : Bool) → is_end (leading_digits text) ≡ none → cond none None (option_and_then (λ behind. pointed_up_to most (leading_digits text) behind) (decimals 9 (past_digits text))) ≡ Some q → IsDecimalUpTo most text q
by_end most text q true h e = absurd cc
by_end most text q false h e =
    let step = then_some (decimals 9 (past_digits text)) (λ behind. pointed_up_to most (leading_digits text) behind) q e in
    decimal_with most text step.0 q h step.1 step.2

pub decimal_is : (most : ℕ) (text : List ℕ) (q : Rational) → decimal_up_to most text ≡ Some q → IsDecimalUpTo most text q
unfolding decimal_up_to
decimal_is most text q e = by_end most text q (is_end (leading_digits text)) refl e

-- ---- what the parts tell of the reading
pub last_digits_of : (most : ℕ) (digits : List ℕ) → IsDigits 1 most digits → last_digits most digits ≡ Some digits
last_digits_of most digits known =
    let parts = cut digits [] known.alone refl in
    let front : leading_digits digits ≡ digits = rw (append-nil digits) at parts.front in
    let back : past_digits digits ≡ [] = rw (append-nil digits) at parts.back in
    let low = known.at_least in
    let high = known.at_most in
    let least : nat_le 1 (length digits) ≡ true = grind (arith, nat_tests) in
    let limit : nat_le (length digits) most ≡ true = grind (arith, nat_tests) in
    rw (front, back, least, limit) refl

decimals_of : (behind : Option (List ℕ)) → AreDecimals behind → decimals 9 (point_text behind) ≡ Some (digits_behind behind)
unfolding decimals
decimals_of None known = refl
decimals_of (Some digits) known = last_digits_of 9 digits known

pub point_apart : (behind : Option (List ℕ)) → is_apart (point_text behind) ≡ true
point_apart None = refl
point_apart (Some digits) = refl

not_end : (xs : List ℕ) → 1 ≤ length xs → is_end xs ≡ false
not_end [] some = absurd (omega arith)
not_end (x ∷ xs) some = refl

decimal_read : (most : ℕ) (text : List ℕ) (p : DecimalParts) → IsDecimalText text p → IsAtMost most p → decimal_up_to most text ≡ Some (decimal_value p)
unfolding decimal_up_to
decimal_read most text p known within =
    let parts = cut p.whole (point_text p.behind) known.whole (point_apart p.behind) in
    let test : nat_le (decimal_digits p) (most * decimal_scale p) ≡ true = grind (arith, nat_tests) in
    rw known.joined (rw (parts.front, parts.back) (rw (not_end p.whole known.some) (rw (decimals_of p.behind known.behind) (rw test refl))))

pub decimal_of_parts : (most : ℕ) (text : List ℕ) (q : Rational) → IsDecimalUpTo most text q → decimal_up_to most text ≡ Some q
decimal_of_parts most text q known = decimal_read most text known.parts known.decimal known.at_most ∙ ap Some known.value

-- each way
pub decimal-read : (most : ℕ) (text : List ℕ) (q : Rational) → decimal_up_to most text ≡ Some q ↔ IsDecimalUpTo most text q
decimal-read most text q = (decimal_is most text q, decimal_of_parts most text q)
