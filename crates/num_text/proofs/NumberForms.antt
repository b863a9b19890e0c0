-- Numbers are read exactly from their parts.
use Rattle.std.specs.Prelude.{◌↔◌, ◌==◌, ◌||◌, option_and_then}
use Rattle.std.proofs.Common.{◌≡◌, ◌⊎◌, inl, inr, ℕ, suc, ◌+◌, ◌*◌, ◌<◌, ◌≤◌, Bool, true, false, cond, not, List, [], ◌∷◌, ◌++◌, length, Option, None, Some, Result, Ok, Err, ℤ, pos, refl, sym, ap, ap₂, ◌∙◌, arith, append-nil}
use Rattle.std.specs.Option.{option_map}
use Rattle.std.specs.List.{list_all}
use Rattle.std.specs.Char.{is_ascii_digit}
use Rattle.std.proofs.lemmas.Bool.Decides.{nat_tests}
use Rattle.std.specs.Str.Parse.{digits_value}
use Rattle.exact_fraction.specs.Number.{Rational}
use Rattle.num_text.specs.declared.error.NumberFault.{NumberFault}
use Rattle.num_text.specs.declared.error.NumberFault.TheVariants.{BadNumber, TooLarge}
use Rattle.num_text.specs.Fields.{Field, leading_digits, past_digits, field, past, is_end, last_number}
use Rattle.num_text.specs.Numbers.{is_negative, past_sign, signed, Spelling, point_digits, past_point, exponent_digits, exponent_of, spelling_of, significand, end_zeros, is_in_bounds, scaled, bounded, power_of, spelled, number_of, number_if_read, number_in}
use Rattle.num_text.specs.NumberText.{AllDigits, IsDigits, Sign, NoSign, Plus, Minus, sign_text, is_minus, PowerParts, NumberParts, point_text, digits_behind, power_text, number_text, IsPower, IsPowerIfAny, number_digits, IsNumberText, written_power, power_of_parts, value_of_parts}
use Rattle.num_text.proofs.Digits.{leading_digits-digits}
use Rattle.num_text.proofs.Cuts.{is_apart, cut}
use Rattle.num_text.proofs.Numerals.{front_back}
use Rattle.num_text.proofs.ClockForms.{heads_same}
use Rattle.num_text.proofs.Grammar.{last_field_is, last_field_of_digits}

-- ---- what a reading tells of the text
-- the sign at the head of a text
by_sign : (byte : ℕ) (bytes : List ℕ) (minus plus : Bool) → (byte == 45) ≡ minus → (byte == 43) ≡ plus → (s : Sign) × (byte ∷ bytes ≡ sign_text s ++ cond (minus || plus) bytes (byte ∷ bytes)) × (is_minus s ≡ minus)
by_sign byte bytes true plus e f = let same : byte ≡ 45 = grind (arith, nat_tests) in (Minus, ap (λ x. x ∷ bytes) same, refl)
by_sign byte bytes false true e f = let same : byte ≡ 43 = grind (arith, nat_tests) in (Plus, ap (λ x. x ∷ bytes) same, refl)
by_sign byte bytes false false e f = (NoSign, refl, refl)

sign_is : (text : List ℕ) → (s : Sign) × (text ≡ sign_text s ++ past_sign text) × (is_minus s ≡ is_negative text)
sign_is [] = (NoSign, refl, refl)
sign_is (byte ∷ bytes) = by_sign byte bytes (byte == 45) (byte == 43) refl refl

-- the point and the digits behind it
by_point : (byte : ℕ) (bytes : List ℕ) (is : Bool) → (byte == 46) ≡ is → (b : Option (List ℕ)) × (byte ∷ bytes ≡ point_text b ++ cond is (past_digits bytes) (byte ∷ bytes)) × (digits_behind b ≡ cond is (leading_digits bytes) [])
by_point byte bytes true e =
    let same : byte ≡ 46 = grind (arith, nat_tests) in
    (Some (leading_digits bytes), ap₂ (λ x xs. x ∷ xs) same (sym (front_back bytes)), refl)
by_point byte bytes false e = (None, refl, refl)

point_is : (text : List ℕ) → (b : Option (List ℕ)) × (text ≡ point_text b ++ past_point text) × (digits_behind b ≡ point_digits text)
point_is [] = (None, refl, refl)
point_is (byte ∷ bytes) = by_point byte bytes (byte == 46) refl

-- the power of ten
pub record IsPowerOf (text : List ℕ) (p : Option PowerParts) (exponent : ℤ) : Type 0 where
  pub joined : text ≡ power_text p
  pub power : IsPowerIfAny p
  pub value : written_power p ≡ exponent

then_cond : {A : Type 0} (test : Bool) (found : Option A) (y : A) → cond test found None ≡ Some y → (test ≡ true) × (found ≡ Some y)
then_cond true found y e = (refl, e)
then_cond false found y e = absurd cc

map_some : {A B : Type 0} (f : A → B) (found : Option A) (y : B) → option_map f found ≡ Some y → (x : A) × (found ≡ Some x) × (f x ≡ y)
map_some f None y e = absurd cc
map_some f (Some x) y e = (x, refl, same_some (f x) y e) where
  same_some : {A : Type 0} (x y : A) → Some x ≡ Some y → x ≡ y
  same_some x y e = cc

either : (byte : ℕ) (one other : Bool) → (byte == 101) ≡ one → (byte == 69) ≡ other → (one || other) ≡ true → (byte ≡ 101) ⊎ (byte ≡ 69)
either byte true other e f h = inl (grind (arith, nat_tests))
either byte false true e f h = inr (grind (arith, nat_tests))
either byte false false e f h = absurd cc

power_with : (byte : ℕ) (bytes : List ℕ) (exponent : ℤ) → (byte ≡ 101) ⊎ (byte ≡ 69) → (s : Sign) × (bytes ≡ sign_text s ++ past_sign bytes) × (is_minus s ≡ is_negative bytes) → exponent_digits bytes ≡ Some exponent → (p : Option PowerParts) × IsPowerOf (byte ∷ bytes) p exponent
power_with byte bytes exponent marked sign e =
    let read = map_some (signed (is_negative bytes)) (last_number (field 1 3 (past_sign bytes))) exponent e in
    let known = last_field_is 1 3 (past_sign bytes) read.0 read.1 in (
      Some (record { mark = byte; sign = sign.0; digits = past_sign bytes }),
      record {
        joined = ap (λ xs. byte ∷ xs) sign.1;
        power = record { marked = marked; digits = known.digits };
        value = ap₂ (λ b n. signed b n) sign.2 known.value ∙ read.2;
      },
    )

power_is : (text : List ℕ) (exponent : ℤ) → exponent_of text ≡ Some exponent → (p : Option PowerParts) × IsPowerOf text p exponent
power_is [] exponent e = (None, record { joined = refl; power = tt; value = cc })
power_is (byte ∷ bytes) exponent e =
    let known = then_cond (byte == 101 || byte == 69) (exponent_digits bytes) exponent e in
    power_with byte bytes exponent (either byte (byte == 101) (byte == 69) refl refl known.0) (sign_is bytes) known.1

-- a number, or no number
some_end : (xs : List ℕ) → is_end xs ≡ false → 1 ≤ length xs
some_end [] e = absurd cc
some_end (x ∷ xs) e = omega arith

number_with : (text : List ℕ) (exponent : ℤ) → is_end (leading_digits (past_sign text) ++ point_digits (past_digits (past_sign text))) ≡ false → exponent_of (past_point (past_digits (past_sign text))) ≡ Some exponent → (p : NumberParts) × IsNumberText text p
number_with text exponent some e =
    let sign = sign_is text in
    let whole : List ℕ = leading_digits (past_sign text) in
    let point = point_is (past_digits (past_sign text)) in
    let power = power_is (past_point (past_digits (past_sign text))) exponent e in
    let length_is = some_end (whole ++ point_digits (past_digits (past_sign text))) some in (
      record { sign = sign.0; whole = whole; behind = point.0; power = power.0 },
      record {
        joined = sign.1 ∙ ap (λ r. sign_text sign.0 ++ r)
            (sym (front_back (past_sign text)) ∙ ap (λ r. whole ++ r) (point.1 ∙ ap (λ r. point_text point.0 ++ r) power.1.joined));
        whole = leading_digits-digits (past_sign text);
        behind = rw point.2 (digits_of_point (past_digits (past_sign text)));
        some = rw point.2 length_is;
        power = power.1.power;
      },
    ) where
      by_byte : (byte : ℕ) (bytes : List ℕ) (is : Bool) → AllDigits (cond is (leading_digits bytes) [])
      by_byte byte bytes true = leading_digits-digits bytes
      by_byte byte bytes false = refl

      digits_of_point : (text : List ℕ) → AllDigits (point_digits text)
      digits_of_point [] = refl
      digits_of_point (byte ∷ bytes) = by_byte byte bytes (byte == 46)

by_parts : (text : List ℕ) (none : Bool) (found : Option ℤ) → is_end (leading_digits (past_sign text) ++ point_digits (past_digits (past_sign text))) ≡ none → exponent_of (past_point (past_digits (past_sign text))) ≡ found → ((p : NumberParts) × IsNumberText text p) ⊎ (number_of text ≡ Err BadNumber)
unfolding spelling_of spelled
by_parts text true found e f = inr (rw e refl)
by_parts text false None e f = inr (rw (e, f) refl)
by_parts text false (Some exponent) e f = inl (number_with text exponent e f)

pub number_or_none : (text : List ℕ) → ((p : NumberParts) × IsNumberText text p) ⊎ (number_of text ≡ Err BadNumber)
number_or_none text =
    by_parts text (is_end (leading_digits (past_sign text) ++ point_digits (past_digits (past_sign text)))) (exponent_of (past_point (past_digits (past_sign text)))) refl refl

-- ---- what the parts tell of the reading
-- no sign stands at the head of a text
abbrev is_unsigned : List ℕ → Bool
is_unsigned [] = true
is_unsigned (byte ∷ bytes) = not (byte == 45 || byte == 43)

pub record IsSignCut (s : Sign) (text : List ℕ) : Type 0 where
  pub negative : is_negative (sign_text s ++ text) ≡ is_minus s
  pub rest : past_sign (sign_text s ++ text) ≡ text

sign_cut : (s : Sign) (text : List ℕ) → is_unsigned text ≡ true → IsSignCut s text
sign_cut NoSign [] e = record { negative = refl; rest = refl }
sign_cut NoSign (byte ∷ bytes) e =
    let minus : (byte == 45) ≡ false = grind arith in
    let plus : (byte == 43) ≡ false = grind arith in
    record { negative = minus; rest = rw (minus, plus) refl }
sign_cut Plus text e = record { negative = refl; rest = refl }
sign_cut Minus text e = record { negative = refl; rest = refl }

digit_unsigned : (byte : ℕ) → is_ascii_digit byte ≡ true → not (byte == 45 || byte == 43) ≡ true
digit_unsigned byte e =
    let minus : (byte == 45) ≡ false = grind (arith, nat_tests) in
    let plus : (byte == 43) ≡ false = grind (arith, nat_tests) in
    rw (minus, plus) refl

digits_unsigned : (digits rest : List ℕ) → AllDigits digits → 1 ≤ length digits → is_unsigned (digits ++ rest) ≡ true
digits_unsigned [] rest e some = absurd (omega arith)
digits_unsigned (digit ∷ digits) rest e some = digit_unsigned digit (grind arith)

number_unsigned : (whole : List ℕ) (behind : Option (List ℕ)) (rest : List ℕ) → AllDigits whole → 1 ≤ length (whole ++ digits_behind behind) → is_unsigned (whole ++ (point_text behind ++ rest)) ≡ true
number_unsigned [] None rest e some = absurd (omega arith)
number_unsigned [] (Some digits) rest e some = refl
number_unsigned (digit ∷ whole) behind rest e some = digits_unsigned (digit ∷ whole) (point_text behind ++ rest) e (omega arith)

-- what is known of the byte that marks a power of ten
pub record IsMark (byte : ℕ) : Type 0 where
  pub mark : (byte == 101 || byte == 69) ≡ true
  pub no_digit : is_ascii_digit byte ≡ false
  pub no_point : (byte == 46) ≡ false

marks : (byte : ℕ) → (byte ≡ 101) ⊎ (byte ≡ 69) → IsMark byte
marks byte (inl small) = rw small (record { mark = refl; no_digit = refl; no_point = refl })
marks byte (inr capital) = rw capital (record { mark = refl; no_digit = refl; no_point = refl })

power_read : (p : Option PowerParts) → IsPowerIfAny p → exponent_of (power_text p) ≡ Some (written_power p)
power_read None known = refl
power_read (Some p) known =
    let test = (marks p.mark known.marked).mark in
    let sign = sign_cut p.sign p.digits (rw (append-nil p.digits) at (digits_unsigned p.digits [] known.digits.alone known.digits.at_least)) in
    let read = last_field_of_digits 1 3 p.digits known.digits in
    rw test (rw (sign.negative, sign.rest) (rw read refl))

power_apart : (p : Option PowerParts) → IsPowerIfAny p → is_apart (power_text p) ≡ true
power_apart None known = refl
power_apart (Some p) known = rw (marks p.mark known.marked).no_digit refl

pub record IsPointCut (behind : Option (List ℕ)) (rest : List ℕ) : Type 0 where
  pub digits : point_digits (point_text behind ++ rest) ≡ digits_behind behind
  pub back : past_point (point_text behind ++ rest) ≡ rest

point_cut : (behind : Option (List ℕ)) (p : Option PowerParts) → AllDigits (digits_behind behind) → IsPowerIfAny p → IsPointCut behind (power_text p)
point_cut None None digits known = record { digits = refl; back = refl }
point_cut None (Some p) digits known =
    let none = (marks p.mark known.marked).no_point in
    record { digits = rw none refl; back = rw none refl }
point_cut (Some behind) p digits known =
    let parts = cut behind (power_text p) digits (power_apart p known) in
    record { digits = parts.front; back = parts.back }

point_apart : (behind : Option (List ℕ)) (p : Option PowerParts) → IsPowerIfAny p → is_apart (point_text behind ++ power_text p) ≡ true
point_apart None p known = power_apart p known
point_apart (Some digits) p known = refl

not_end : (xs : List ℕ) → 1 ≤ length xs → is_end xs ≡ false
not_end [] some = absurd (omega arith)
not_end (x ∷ xs) some = refl

spelling_read : (negative : Bool) (whole : List ℕ) (behind : Option (List ℕ)) (p : Option PowerParts) → AllDigits whole → AllDigits (digits_behind behind) → 1 ≤ length (whole ++ digits_behind behind) → IsPowerIfAny p → spelling_of negative (whole ++ (point_text behind ++ power_text p)) ≡ Some (record { negative = negative; whole = whole; behind = digits_behind behind; exponent = written_power p })
unfolding spelling_of
spelling_read negative whole behind p digits digits_after some known =
    let front = cut whole (point_text behind ++ power_text p) digits (point_apart behind p known) in
    let point = point_cut behind p digits_after known in
    rw (front.front, front.back) (rw (point.digits, point.back) (rw (not_end (whole ++ digits_behind behind) some) (rw (power_read p known) refl)))

pub number_of_parts : (text : List ℕ) (p : NumberParts) → IsNumberText text p → number_of text ≡ value_of_parts p
unfolding spelled
number_of_parts text p known =
    let rest : List ℕ = p.whole ++ (point_text p.behind ++ power_text p.power) in
    let sign = sign_cut p.sign rest (number_unsigned p.whole p.behind (power_text p.power) known.whole known.some) in
    let read = spelling_read (is_minus p.sign) p.whole p.behind p.power known.whole known.behind known.some known.power in
    rw known.joined (rw (sign.negative, sign.rest) (rw read refl))

-- ---- each way
not_bad : (zero_size within : Bool) (q r : Rational) → cond zero_size (Ok q) (cond within (Ok r) (Err TooLarge)) ≡ Err BadNumber → ⊥
not_bad true within q r e = absurd cc
not_bad false true q r e = absurd cc
not_bad false false q r e = absurd cc

value_not_bad : (p : NumberParts) → value_of_parts p ≡ Err BadNumber → ⊥
unfolding bounded
value_not_bad p e = not_bad (significand (number_digits p) == 0) (is_in_bounds (is_minus p.sign) (significand (number_digits p)) (power_of_parts p)) _ (scaled (is_minus p.sign) (significand (number_digits p)) (power_of_parts p)) e

read_with : (text : List ℕ) (r : Result Rational NumberFault) → (Err BadNumber ≡ r → ⊥) → ((p : NumberParts) × IsNumberText text p) ⊎ (number_of text ≡ Err BadNumber) → number_of text ≡ r → (p : NumberParts) × IsNumberText text p × (value_of_parts p ≡ r)
read_with text r other (inl found) e = (found.0, found.1, sym (number_of_parts text found.0 found.1) ∙ e)
read_with text r other (inr bad) e = absurd (other (sym bad ∙ e))

ok_is_other : (q : Rational) → Err BadNumber ≡ Ok q → ⊥
ok_is_other q e = absurd cc

large_is_other : (r : Result Rational NumberFault) → r ≡ Err BadNumber → r ≡ Err TooLarge → ⊥
large_is_other r e f = absurd cc

pub number-read : (text : List ℕ) (q : Rational) → number_of text ≡ Ok q ↔ ((p : NumberParts) × IsNumberText text p × (value_of_parts p ≡ Ok q))
number-read text q = (read_with text (Ok q) (ok_is_other q) (number_or_none text), λ known. number_of_parts text known.0 known.1 ∙ known.2)

pub number-too_large : (text : List ℕ) → number_of text ≡ Err TooLarge ↔ ((p : NumberParts) × IsNumberText text p × (value_of_parts p ≡ Err TooLarge))
number-too_large text = (read_with text (Err TooLarge) (large_is_other (Err BadNumber) refl) (number_or_none text), λ known. number_of_parts text known.0 known.1 ∙ known.2)

none_of : (text : List ℕ) → number_of text ≡ Err BadNumber → (p : NumberParts) → IsNumberText text p → ⊥
none_of text e p known = value_not_bad p (sym (number_of_parts text p known) ∙ e)

bad_of : (text : List ℕ) → ((p : NumberParts) × IsNumberText text p) ⊎ (number_of text ≡ Err BadNumber) → ((p : NumberParts) → IsNumberText text p → ⊥) → number_of text ≡ Err BadNumber
bad_of text (inl found) none = absurd (none found.0 found.1)
bad_of text (inr bad) none = bad

pub number-no_number : (text : List ℕ) → number_of text ≡ Err BadNumber ↔ ((p : NumberParts) → IsNumberText text p → ⊥)
number-no_number text = (none_of text, bad_of text (number_or_none text))

-- ---- a text has one such cut
abbrev behind_first : List ℕ → List ℕ
behind_first [] = []
behind_first (byte ∷ bytes) = bytes

abbrev first_byte : List ℕ → ℕ
first_byte [] = 0
first_byte (byte ∷ bytes) = byte

-- the sign that a text begins with
abbrev sign_at : List ℕ → Sign
sign_at [] = NoSign
sign_at (byte ∷ bytes) = cond (byte == 45) Minus (cond (byte == 43) Plus NoSign)

sign_back : (s : Sign) (text : List ℕ) → is_unsigned text ≡ true → sign_at (sign_text s ++ text) ≡ s
sign_back NoSign [] e = refl
sign_back NoSign (byte ∷ bytes) e =
    let minus : (byte == 45) ≡ false = grind arith in
    let plus : (byte == 43) ≡ false = grind arith in
    rw (minus, plus) refl
sign_back Plus text e = refl
sign_back Minus text e = refl

signs_same : (s r : Sign) (one other : List ℕ) → is_unsigned one ≡ true → is_unsigned other ≡ true → sign_text s ++ one ≡ sign_text r ++ other → (s ≡ r) × (one ≡ other)
signs_same s r one other known held same = (
  sym (sign_back s one known) ∙ ap sign_at same ∙ sign_back r other held,
  sym (sign_cut s one known).rest ∙ ap past_sign same ∙ (sign_cut r other held).rest,
)

-- the digits behind a point that a text begins with
abbrev behind_at : List ℕ → Option (List ℕ)
behind_at [] = None
behind_at (byte ∷ bytes) = cond (byte == 46) (Some (leading_digits bytes)) None

behind_back : (behind : Option (List ℕ)) (p : Option PowerParts) → AllDigits (digits_behind behind) → IsPowerIfAny p → behind_at (point_text behind ++ power_text p) ≡ behind
behind_back None None digits known = refl
behind_back None (Some p) digits known = rw (marks p.mark known.marked).no_point refl
behind_back (Some behind) p digits known = ap Some (cut behind (power_text p) digits (power_apart p known)).front

power_digits_unsigned : (digits : List ℕ) → IsDigits 1 3 digits → is_unsigned digits ≡ true
power_digits_unsigned digits known = rw (append-nil digits) at (digits_unsigned digits [] known.alone known.at_least)

powers_same : (p q : Option PowerParts) → IsPowerIfAny p → IsPowerIfAny q → power_text p ≡ power_text q → p ≡ q
powers_same None None known held same = refl
powers_same None (Some q) known held same = absurd cc
powers_same (Some p) None known held same = absurd cc
powers_same (Some p) (Some q) known held same =
    let mark : p.mark ≡ q.mark = ap first_byte same in
    let rest = signs_same p.sign q.sign p.digits q.digits (power_digits_unsigned p.digits known.digits) (power_digits_unsigned q.digits held.digits) (ap behind_first same) in
    λ i. Some (record { mark = mark i; sign = rest.0 i; digits = rest.1 i })

pub number-one : (text : List ℕ) (p q : NumberParts) → IsNumberText text p → IsNumberText text q → p ≡ q
number-one text p q known held =
    let rest : List ℕ = p.whole ++ (point_text p.behind ++ power_text p.power) in
    let other : List ℕ = q.whole ++ (point_text q.behind ++ power_text q.power) in
    let sign = signs_same p.sign q.sign rest other (number_unsigned p.whole p.behind (power_text p.power) known.whole known.some) (number_unsigned q.whole q.behind (power_text q.power) held.whole held.some) (sym known.joined ∙ held.joined) in
    let whole = heads_same p.whole q.whole (point_text p.behind ++ power_text p.power) (point_text q.behind ++ power_text q.power) known.whole held.whole (point_apart p.behind p.power known.power) (point_apart q.behind q.power held.power) sign.1 in
    let behind = sym (behind_back p.behind p.power known.behind known.power) ∙ ap behind_at whole.1 ∙ behind_back q.behind q.power held.behind held.power in
    let powers = sym (point_cut p.behind p.power known.behind known.power).back ∙ ap past_point whole.1 ∙ (point_cut q.behind q.power held.behind held.power).back in
    let power = powers_same p.power q.power known.power held.power powers in
    λ i. record { sign = sign.0 i; whole = whole.0 i; behind = behind i; power = power i }

-- ---- the number that a reading gives, or None
by_reading : (r : Result Rational NumberFault) (q : Rational) → number_if_read r ≡ Some q → r ≡ Ok q
by_reading (Ok p) q e = ap Ok (same p q e) where
  same : (p q : Rational) → Some p ≡ Some q → p ≡ q
  same p q e = cc
by_reading (Err fault) q e = absurd cc

pub number-known : (text : List ℕ) (q : Rational) → number_in text ≡ Some q ↔ (number_of text ≡ Ok q)
number-known text q = (by_reading (number_of text) q, λ e. ap number_if_read e)
