-- Numbers that are read in the walk to their comma: digits, with a point or without.
use Rattle.std.proofs.Common.{◌≡◌, inl, inr, ℕ, zero, suc, ◌+◌, ◌-◌, ◌*◌, ◌^◌, ◌<◌, ◌≤◌, Bool, true, false, cond, ◌&&◌, List, [], ◌∷◌, ◌++◌, length, get_or, take, drop, Option, None, Some, Ok, Err, ℤ, pos, negsuc, ◌+ℤ◌, ◌-ℤ◌, ◌*ℤ◌, ◌≤ℤ◌, refl, sym, ap, subst, ◌∙◌, arith, pow-add, pow-suc, lit≤, append-nil, length-append, length-take}
use Rattle.std.specs.Prelude.{◌==◌, ok_or, int_le}
use Rattle.std.specs.List.{list_all}
use Rattle.std.specs.Char.{is_ascii_digit, digit_value}
use Rattle.std.specs.Str.Parse.{digits_value, digits_value_after}
use Rattle.std.proofs.Math.Nat.{pow-le-pow_right, mul-le-mul_right}
use Rattle.std.proofs.lemmas.Bool.{cases_lt}
use Rattle.std.proofs.lemmas.Bool.Decides.{nat_tests}
use Rattle.std.proofs.lemmas.Int.{ints}
use Rattle.std.proofs.lemmas.List.{take_rest, take_all}
use Rattle.std.proofs.lemmas.List.Folds.{list_all_more}
use Rattle.exact_fraction.specs.Number.{Rational, den, ratio, fits, whole}
use Rattle.exact_fraction.specs.Number.{zero as nought}
use Rattle.exact_fraction.specs.Checked.{made, fitting}
use Rattle.exact_fraction.proofs.PublicLaws.{lowest_terms-of_same, lowest_terms-fits, lowest_terms-itself, lowest_terms-of_whole}
use Rattle.num_text.specs.declared.error.NumberFault.TheVariants.{TooLarge}
use Rattle.num_text.specs.NumberText.{NumberParts, NoSign}
use Rattle.num_text.specs.Numbers.{number_of, scaled, bounded, in_bounds, significand, end_zeros}
use Rattle.num_text.proofs.PublicLaws.{number_grammar-read, significands-value}
use Rattle.num_text.specs.Fields.{leading_digits, past_digits}
use Rattle.num_text.specs.Numbers.{spelling_of, spelled}
use Rattle.trace_csv.specs.Fields.{field_input, input_of, some_read}
use Rattle.trace_csv.specs.Records.{cut_at_commas, is_plain}
use Rattle.trace_csv.specs.internal.Filling.{cut_behind, is_plain_behind}
use Rattle.trace_csv.specs.internal.PlainNumbers.{is_part}
use Rattle.trace_csv.proofs.PlainFields.{is_other, cut_first, cut_last, plain_first, plain_last}
use Rattle.trace_csv.proofs.WrittenFields.{ArePast, trimmed_same}

-- ---- one more digit behind a number
digit_byte : (byte : ℕ) → is_ascii_digit byte ≡ true → digit_value byte ≡ byte - 48
digit_byte byte e = grind (arith, nat_tests)

next_digit : (front : ℕ) (text : List ℕ) (at : ℕ) → at < length text → is_ascii_digit (get_or text at 0) ≡ true
    → digits_value_after 10 front (take (suc at) text) ≡ digits_value_after 10 front (take at text) * 10 + (get_or text at 0 - 48)
next_digit front [] at within e = absurd (omega arith)
next_digit front (byte ∷ bytes) zero within e = ap (λ d. front * 10 + d) (digit_byte byte e)
next_digit front (byte ∷ bytes) (suc at) within e = next_digit (front * 10 + digit_value byte) bytes at (omega arith) e

pub one_more : (front : ℕ) (text : List ℕ) (at : ℕ) → at < length text → is_ascii_digit (get_or text at 0) ≡ true
    → digits_value_after 10 front (take (at + 1) text) ≡ digits_value_after 10 front (take at text) * 10 + (get_or text at 0 - 48)
one_more front text at within e = let next : at + 1 ≡ suc at = omega arith in rw next (next_digit front text at within e)

pub one_more_of : (p : ℕ → Bool) (text : List ℕ) (at : ℕ) → at < length text → list_all p (take at text) ≡ true
    → p (get_or text at 0) ≡ true → list_all p (take (at + 1) text) ≡ true
one_more_of p text at within front here =
    list_all_more p text at 0 within ∙ ap (λ test. test && p (get_or text at 0)) front ∙ here

-- ---- a power of ten
ten_pos : (k : ℕ) → 0 < 10 ^ k
ten_pos zero = omega arith
ten_pos (suc k) = let more = ten_pos k in omega (arith, pow-suc 10 k)

-- ---- the value of digits that write less than 2^63
cross : (a b c d : ℕ) → a * d ≡ c * b → pos a *ℤ pos d ≡ pos c *ℤ pos b
cross a b c d e = ap pos e

same_ratio : (a b c d : ℕ) → 0 < b → 0 < d → a * d ≡ c * b → ratio (pos a) b ≡ ratio (pos c) d
same_ratio a b c d p q e = lowest_terms-of_same (pos a) (pos c) b d p q (cross a b c d e)

whole_is : (size : ℕ) → ratio (pos size) 1 ≡ whole (pos size)
unfolding whole den
whole_is size = lowest_terms-itself (whole (pos size)) (lowest_terms-of_whole (pos size))

nought_fits : in_bounds nought ≡ Ok nought
nought_fits =
    let known : fits (ratio (pos 0) 1) ≡ true = lowest_terms-fits (pos 0) 1 (omega arith) (omega arith) (omega arith) in
    let same = rw (whole_is 0) at known in
    rw same refl

nothing : (places : ℕ) → in_bounds (ratio (pos 0) (10 ^ places)) ≡ Ok nought
nothing places = ap in_bounds (same_ratio 0 (10 ^ places) 0 1 (ten_pos places) (omega arith) (omega arith) ∙ whole_is 0) ∙ nought_fits

none_bounded : (power : ℤ) → bounded false 0 power ≡ Ok nought
unfolding bounded
none_bounded power = refl

few_bounded : (size : ℕ) (power : ℤ) → 0 < size → negsuc 17 ≤ℤ power → power ≤ℤ pos 18
    → bounded false size power ≡ in_bounds (scaled false size power)
unfolding bounded
few_bounded size power some low high =
    let test : (size == 0) ≡ false = grind (arith, nat_tests) in
    let least : int_le (negsuc 17) power ≡ true = grind (arith, ints) in
    let most : int_le power (pos 18) ≡ true = grind (arith, ints) in
    rw (test, least, most) refl

up : (size ends places power : ℕ) → 0 < size → power ≤ 18 → ends ≡ places + power
    → bounded false size (pos power) ≡ in_bounds (ratio (pos (size * 10 ^ ends)) (10 ^ places))
unfolding scaled
up size ends places power some few is =
    let sum : 10 ^ ends ≡ 10 ^ places * 10 ^ power = ap (λ k. 10 ^ k) is ∙ pow-add 10 places power in
    let grown : size * 10 ^ ends ≡ size * (10 ^ places * 10 ^ power) = ap (λ x. size * x) sum in
    let same : size * 10 ^ power * 10 ^ places ≡ size * 10 ^ ends * 1 = omega arith in
    few_bounded size (pos power) some (omega (arith, ints)) (omega (arith, ints))
    ∙ ap in_bounds (same_ratio (size * 10 ^ power) 1 (size * 10 ^ ends) (10 ^ places) (omega arith) (ten_pos places) same)

down : (size ends places power : ℕ) → 0 < size → power < 18 → places ≡ ends + suc power
    → bounded false size (negsuc power) ≡ in_bounds (ratio (pos (size * 10 ^ ends)) (10 ^ places))
unfolding scaled
down size ends places power some few is =
    let sum : 10 ^ places ≡ 10 ^ ends * 10 ^ suc power = ap (λ k. 10 ^ k) is ∙ pow-add 10 ends (suc power) in
    let grown : size * 10 ^ places ≡ size * (10 ^ ends * 10 ^ suc power) = ap (λ x. size * x) sum in
    let same : size * 10 ^ places ≡ size * 10 ^ ends * 10 ^ suc power = omega arith in
    few_bounded size (negsuc power) some (omega (arith, ints)) (omega (arith, ints))
    ∙ ap in_bounds (same_ratio size (10 ^ suc power) (size * 10 ^ ends) (10 ^ places) (ten_pos (suc power)) (ten_pos places) same)

few_zeros : (size ends : ℕ) → 0 < size → size * 10 ^ ends < 10 ^ 18 → ends ≤ 18
few_zeros size ends some small = elim (cases_lt 18 ends) [
  | inl many ↦
      let most : 10 ^ 19 ≤ 10 ^ ends = pow-le-pow_right (lit≤ tt) many in
      let grown : 1 * 10 ^ ends ≤ size * 10 ^ ends = mul-le-mul_right (10 ^ ends) some in
      absurd (omega arith)
  | inr few ↦ few
]

power_up : (places ends power : ℕ) → ends ≡ places + power → pos 0 -ℤ pos places +ℤ pos ends ≡ pos power
power_up places ends power is = omega (arith, ints)

power_down : (places ends power : ℕ) → places ≡ ends + suc power → pos 0 -ℤ pos places +ℤ pos ends ≡ negsuc power
power_down places ends power is = omega (arith, ints)

by_size : (size ends places : ℕ) → places ≤ 18 → size * 10 ^ ends < 10 ^ 18
    → bounded false size (pos 0 -ℤ pos places +ℤ pos ends) ≡ in_bounds (ratio (pos (size * 10 ^ ends)) (10 ^ places))
by_size zero ends places few small =
    let none : 0 * 10 ^ ends ≡ 0 = omega arith in
    none_bounded (pos 0 -ℤ pos places +ℤ pos ends) ∙ sym (nothing places) ∙ ap (λ n. in_bounds (ratio (pos n) (10 ^ places))) (sym none)
by_size (suc size) ends places few small =
    let some : 0 < suc size = omega arith in
    let most = few_zeros (suc size) ends some small in
    elim (cases_lt ends places) [
      | inl less ↦
          let is : places ≡ ends + suc (places - ends - 1) = omega arith in
          ap (λ p. bounded false (suc size) p) (power_down places ends (places - ends - 1) is) ∙ down (suc size) ends places (places - ends - 1) some (omega arith) is
      | inr more ↦
          let is : ends ≡ places + (ends - places) = omega arith in
          ap (λ p. bounded false (suc size) p) (power_up places ends (ends - places) is) ∙ up (suc size) ends places (ends - places) some (omega arith) is
    ]

-- a ratio that is made is one that fits
by_fits : (q : Rational) (b : Bool) → ok_or (cond b (Some q) None) TooLarge ≡ cond b (Ok q) (Err TooLarge)
by_fits q true = refl
by_fits q false = refl

made_in : (number below : ℕ) → 0 < below → ok_or (made (pos number) (pos below)) TooLarge ≡ in_bounds (ratio (pos number) below)
unfolding made fitting
made_in number zero some = absurd (omega arith)
made_in number (suc below) some = by_fits (ratio (pos number) (suc below)) (fits (ratio (pos number) (suc below)))

-- ---- the texts
abbrev parts_of : List ℕ → Option (List ℕ) → NumberParts
parts_of digits behind = record { sign = NoSign; whole = digits; behind = behind; power = None }

joined_digits : (front back : List ℕ) → list_all is_ascii_digit front ≡ true → list_all is_ascii_digit back ≡ true
    → list_all is_ascii_digit (front ++ back) ≡ true
joined_digits [] back one two = two
joined_digits (byte ∷ bytes) back one two =
    let here : is_ascii_digit byte ≡ true = grind arith in
    let rest : list_all is_ascii_digit bytes ≡ true = grind arith in
    rw here (joined_digits bytes back rest two)

value_is : (digits : List ℕ) (number places : ℕ) (q : Rational) → list_all is_ascii_digit digits ≡ true → digits_value 10 digits ≡ number
    → number < 10 ^ 18 → places ≤ 18 → made (pos number) (pos (10 ^ places)) ≡ Some q
    → bounded false (significand digits) (pos 0 -ℤ pos places +ℤ pos (end_zeros digits)) ≡ Ok q
value_is digits number places q alone is small few made_is =
    let same : significand digits * 10 ^ end_zeros digits ≡ number = sym (significands-value digits alone) ∙ is in
    let held : Ok q ≡ in_bounds (ratio (pos number) (10 ^ places)) =
    ap (λ m. ok_or m TooLarge) (sym made_is) ∙ made_in number (10 ^ places) (ten_pos places) in
    by_size (significand digits) (end_zeros digits) places few (omega arith)
    ∙ ap (λ n. in_bounds (ratio (pos n) (10 ^ places))) same ∙ sym held

-- a text of digits alone
whole_read : (digits : List ℕ) (q : Rational) → list_all is_ascii_digit digits ≡ true → 1 ≤ length digits
    → digits_value 10 digits < 10 ^ 18 → made (pos (digits_value 10 digits)) (pos (10 ^ 0)) ≡ Some q → number_of digits ≡ Ok q
whole_read digits q alone some small made_is =
    (number_grammar-read digits q).1 (
      parts_of digits None,
      record {
        joined = sym (append-nil digits);
        whole = alone;
        behind = refl;
        some = subst (λ all. 1 ≤ length all) (sym (append-nil digits)) some;
        power = tt;
      },
      subst (λ all. bounded false (significand all) (pos 0 -ℤ pos 0 +ℤ pos (end_zeros all)) ≡ Ok q) (sym (append-nil digits))
          (value_is digits (digits_value 10 digits) 0 q alone refl small (omega arith) made_is),
    )

-- digits alone at the head of a text
pub whole_number : (text : List ℕ) (count number : ℕ) (q : Rational) → count ≤ length text → list_all is_ascii_digit (take count text) ≡ true
    → 1 ≤ count → number ≡ digits_value_after 10 0 (take count text) → number < 10 ^ 18 → made (pos number) (pos (10 ^ 0)) ≡ Some q
    → number_of (take count text) ≡ Ok q
whole_number text count number q within alone some is small made_is =
    let long : 1 ≤ length (take count text) = omega (arith, length-take count text) in
    whole_read (take count text) q alone long (subst (λ n. n < 10 ^ 18) is small) (ap (λ n. made (pos n) (pos (10 ^ 0))) (sym is) ∙ made_is)

-- digits with a point
after_append : (number : ℕ) (front back : List ℕ) → digits_value_after 10 number (front ++ back) ≡ digits_value_after 10 (digits_value_after 10 number front) back
after_append number [] back = refl
after_append number (byte ∷ front) back = after_append (number * 10 + digit_value byte) front back

point_read : (front behind : List ℕ) (number : ℕ) (q : Rational) → list_all is_ascii_digit front ≡ true → list_all is_ascii_digit behind ≡ true
    → 1 ≤ length front → digits_value 10 (front ++ behind) ≡ number → number < 10 ^ 18 → length behind ≤ 18
    → made (pos number) (pos (10 ^ length behind)) ≡ Some q → number_of (front ++ 46 ∷ behind) ≡ Ok q
point_read front behind number q one two some is small few made_is =
    (number_grammar-read (front ++ 46 ∷ behind) q).1 (
      parts_of front (Some behind),
      record {
        joined = ap (λ rest. front ++ 46 ∷ rest) (sym (append-nil behind));
        whole = one;
        behind = two;
        some = omega (arith, length-append front behind, some);
        power = tt;
      },
      value_is (front ++ behind) number (length behind) q (joined_digits front behind one two) is small few made_is,
    )

taken_is : (text : List ℕ) (count more : ℕ) → count < length text → get_or text count 0 ≡ 46
    → take (suc (count + more)) text ≡ take count text ++ 46 ∷ take more (drop (suc count) text)
taken_is [] count more within point = absurd (omega arith)
taken_is (byte ∷ bytes) zero more within point =
    let same : 0 + more ≡ more = omega arith in
    ap (λ k. byte ∷ take k bytes) same ∙ ap (λ b. b ∷ take more bytes) point
taken_is (byte ∷ bytes) (suc count) more within point =
    let same : suc count + more ≡ suc (count + more) = omega arith in
    ap (λ k. byte ∷ take k bytes) same ∙ ap (λ rest. byte ∷ rest) (taken_is bytes count more (omega arith) point)

pub taken : (text rest : List ℕ) (count more : ℕ) → count < length text → get_or text count 0 ≡ 46
    → rest ≡ take (length text - (count + 1)) (drop (count + 1) text)
    → take (count + 1 + more) text ≡ take count text ++ 46 ∷ take more rest
taken text rest count more within point is =
    let next : count + 1 ≡ suc count = omega arith in
    let sum : count + 1 + more ≡ suc (count + more) = omega arith in
    ap (λ k. take k text) sum ∙ taken_is text count more within point
    ∙ ap (λ k. take count text ++ 46 ∷ take more (drop k text)) (sym next)
    ∙ ap (λ list. take count text ++ 46 ∷ take more list) (sym (is ∙ take_rest text (count + 1)))

pub point_number : (text rest : List ℕ) (count more front number : ℕ) (q : Rational) → count < length text → get_or text count 0 ≡ 46
    → rest ≡ take (length text - (count + 1)) (drop (count + 1) text) → 1 ≤ count → more ≤ length rest
    → list_all is_ascii_digit (take count text) ≡ true → list_all is_ascii_digit (take more rest) ≡ true
    → front ≡ digits_value_after 10 0 (take count text) → number ≡ digits_value_after 10 front (take more rest)
    → number < 10 ^ 18 → more ≤ 18 → made (pos number) (pos (10 ^ more)) ≡ Some q
    → number_of (take (count + 1 + more) text) ≡ Ok q
point_number text rest count more front number q within point rest_is some short one two front_is is small few made_is =
    let long : 1 ≤ length (take count text) = omega (arith, length-take count text) in
    let many : length (take more rest) ≡ more = omega (arith, length-take more rest) in
    let value : digits_value 10 (take count text ++ take more rest) ≡ number =
    after_append 0 (take count text) (take more rest) ∙ ap (λ n. digits_value_after 10 n (take more rest)) (sym front_is) ∙ sym is in
    ap number_of (taken text rest count more within point rest_is)
    ∙ point_read (take count text) (take more rest) number q one two long value small (omega arith)
    (ap (λ k. made (pos number) (pos (10 ^ k))) many ∙ made_is)

-- ---- the field
all_of : (p r : ℕ → Bool) → ((byte : ℕ) → p byte ≡ true → r byte ≡ true) → (text : List ℕ) → list_all p text ≡ true → list_all r text ≡ true
all_of p r each [] all = refl
all_of p r each (byte ∷ bytes) all =
    let here : p byte ≡ true = grind arith in
    let rest : list_all p bytes ≡ true = grind arith in
    rw (each byte here) (all_of p r each bytes rest)

digit_part : (byte : ℕ) → is_ascii_digit byte ≡ true → is_part byte ≡ true
digit_part byte e = grind (arith, nat_tests)

part_other : (byte : ℕ) → is_part byte ≡ true → is_other byte ≡ true
part_other byte e = grind (arith, nat_tests)

part_plain : (byte : ℕ) → is_part byte ≡ true → is_plain byte ≡ true
part_plain byte e = grind (arith, nat_tests)

part_past : (byte : ℕ) → is_part byte ≡ true → 44 < byte
part_past byte e = grind (arith, nat_tests)

parts_past : (text : List ℕ) → list_all is_part text ≡ true → ArePast text
parts_past [] all = tt
parts_past (byte ∷ bytes) all =
    let here : is_part byte ≡ true = grind arith in
    let rest : list_all is_part bytes ≡ true = grind arith in
    (part_past byte here, parts_past bytes rest)

pub digit_parts : (text : List ℕ) → list_all is_ascii_digit text ≡ true → list_all is_part text ≡ true
digit_parts text all = all_of is_ascii_digit is_part digit_part text all

joined_parts : (front behind : List ℕ) → list_all is_part front ≡ true → list_all is_part behind ≡ true → list_all is_part (front ++ 46 ∷ behind) ≡ true
joined_parts [] behind one two = two
joined_parts (byte ∷ bytes) behind one two =
    let here : is_part byte ≡ true = grind arith in
    let rest : list_all is_part bytes ≡ true = grind arith in
    rw here (joined_parts bytes behind rest two)

pub point_parts : (text rest : List ℕ) (count more : ℕ) → count < length text → get_or text count 0 ≡ 46
    → rest ≡ take (length text - (count + 1)) (drop (count + 1) text)
    → list_all is_ascii_digit (take count text) ≡ true → list_all is_ascii_digit (take more rest) ≡ true
    → list_all is_part (take (count + 1 + more) text) ≡ true
point_parts text rest count more within point is one two =
    ap (list_all is_part) (taken text rest count more within point is)
    ∙ joined_parts (take count text) (take more rest) (digit_parts (take count text) one) (digit_parts (take more rest) two)

input_is : (text : List ℕ) (q : Rational) → number_of text ≡ Ok q → input_of text ≡ Ok (Some q)
unfolding spelled spelling_of leading_digits past_digits
input_is [] q is = cc
input_is (byte ∷ bytes) q is = ap some_read is

pub field_read : (text : List ℕ) (q : Rational) → list_all is_part text ≡ true → number_of text ≡ Ok q → field_input text ≡ Ok (Some q)
unfolding field_input
field_read text q parts is = ap input_of (trimmed_same text (parts_past text parts)) ∙ input_is text q is

-- a field before a comma, and one that the text ends with
pub record IsFirst (text field : List ℕ) (behind : Option (List ℕ)) (q : Rational) : Type 0 where
  pub cut : cut_at_commas text ≡ field ∷ cut_behind behind
  pub plain : is_plain_behind behind ≡ true → list_all is_plain text ≡ true
  pub input : field_input field ≡ Ok (Some q)

pub before_comma : (text : List ℕ) (end : ℕ) (q : Rational) → end < length text → list_all is_part (take end text) ≡ true
    → number_of (take end text) ≡ Ok q → get_or text end 0 ≡ 44
    → IsFirst text (take end text) (Some (take (length text - (end + 1)) (drop (end + 1) text))) q
before_comma text end q within parts is here = record {
  cut = cut_first text end within (all_of is_part is_other part_other (take end text) parts) here;
  plain = plain_first text end within (all_of is_part is_plain part_plain (take end text) parts) (ap is_plain here);
  input = field_read (take end text) q parts is;
}

pub at_end : (text : List ℕ) (end : ℕ) (q : Rational) → length text ≤ end → list_all is_part (take end text) ≡ true
    → number_of (take end text) ≡ Ok q → IsFirst text text None q
at_end text end q past parts is = record {
  cut = cut_last text end past (all_of is_part is_other part_other (take end text) parts);
  plain = λ none. plain_last text end past (all_of is_part is_plain part_plain (take end text) parts);
  input = ap field_input (sym (take_all end text past)) ∙ field_read (take end text) q parts is;
}
