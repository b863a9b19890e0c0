-- The words n-HR_DEPTH: a number without leading zeros, and the end.
use Rattle.std.proofs.Common.{◌≡◌, ℕ, ◌+◌, ◌<◌, ◌≤◌, ◌^◌, Bool, true, false, Option, None, Some, List, [], ◌∷◌, ◌++◌, length, take, drop, refl, sym, ap, ap₂, ◌∙◌, arith}
use Rattle.std.specs.Prelude.{IsTrue, if◌then◌else◌}
use Rattle.std.specs.Char.{to_ascii_lowercase}
use Rattle.std.specs.Fmt.{decimal}
use Rattle.std.specs.Str.{str_to_ascii_lowercase}
use Rattle.std.specs.Str.Parse.{AllDigits}
use Rattle.std.proofs.lemmas.Bool.Decides.{nat_tests}
use Rattle.std.proofs.lemmas.Fmt.{decimal_is_IsNumeral}
use Rattle.std.proofs.lemmas.List.{length-map, length-append, take-map, drop-map}
use Rattle.std.proofs.lemmas.Str.Parse.{digit_from_value}
use Rattle.std.proofs.Math.Seq.{take-append_seam, drop-append_seam}
use Rattle.rule_types.specs.declared.key.Attr.{Attr}
use Rattle.rule_types.specs.declared.key.Attr.TheVariants.{HourDepth}
use Rattle.num_text.specs.Counts.{count_of}
use Rattle.num_text.proofs.PublicLaws.{counts-back, counts-written}
use Rattle.key_words.specs.Words.{is_word, hours_end, are_hours, over_hours, before_end, hour_depth}
use Rattle.key_words.proofs.Tables.{word_same, same_word, parts_joined}

-- an attribute but for n-HR_DEPTH
abbrev pub is_plain : Attr → Bool
is_plain (HourDepth hours) = false
is_plain attribute = true

no_attribute : (a : Attr) → None ≡ Some a → ⊥
no_attribute a e = cc

-- ---- a digit has no case
digit_lower : (byte digit : ℕ) → 48 ≤ digit → digit ≤ 57 → to_ascii_lowercase byte ≡ to_ascii_lowercase digit → byte ≡ digit
digit_lower byte digit low high e = grind (arith, nat_tests)

digits_lower : (bytes digits : List ℕ) → AllDigits 10 digits → str_to_ascii_lowercase bytes ≡ str_to_ascii_lowercase digits → bytes ≡ digits
digits_lower [] [] all e = refl
digits_lower [] (digit ∷ digits) all e = cc
digits_lower (byte ∷ bytes) [] all e = cc
digits_lower (byte ∷ bytes) (digit ∷ digits) all e =
    let here : to_ascii_lowercase byte ≡ to_ascii_lowercase digit = cc in
    let rest : str_to_ascii_lowercase bytes ≡ str_to_ascii_lowercase digits = cc in
    let value = digit_from_value digit all.0 in
    ap₂ (λ x y. x ∷ y) (digit_lower byte digit (omega arith) (omega arith) here) (digits_lower bytes digits all.1 rest)

small : (hours : ℕ) → are_hours hours ≡ true → hours < 2 ^ 64
small hours h =
    let most : hours ≤ 48 = grind (arith, nat_tests) in
    omega arith

-- ---- the parts of an item that is a text and the end
pub record Parts (item front : List ℕ) : Type 0 where
  pub number : str_to_ascii_lowercase (take (before_end item) item) ≡ str_to_ascii_lowercase front
  pub ended : str_to_ascii_lowercase (drop (before_end item) item) ≡ str_to_ascii_lowercase hours_end

pub parts_of : (item front : List ℕ) → str_to_ascii_lowercase item ≡ str_to_ascii_lowercase (front ++ hours_end) → Parts item front
parts_of item front e =
    let xs = str_to_ascii_lowercase front in
    let ys = str_to_ascii_lowercase hours_end in
    let whole : str_to_ascii_lowercase item ≡ xs ++ ys = e ∙ split front hours_end in
    let sizes : length item ≡ length xs + 9 = sym (length-map item to_ascii_lowercase) ∙ ap length whole ∙ length-append xs ys in
    let at : before_end item ≡ length xs = omega arith in
    record {
      number = sym (take-map to_ascii_lowercase (before_end item) item) ∙ ap₂ take at whole ∙ take-append_seam xs ys;
      ended = sym (drop-map to_ascii_lowercase (before_end item) item) ∙ ap₂ drop at whole ∙ drop-append_seam xs ys;
    }
  where
    split : (a b : List ℕ) → str_to_ascii_lowercase (a ++ b) ≡ str_to_ascii_lowercase a ++ str_to_ascii_lowercase b
    split [] b = refl
    split (c ∷ a) b = ap (λ l. to_ascii_lowercase c ∷ l) (split a b)

-- ---- what is read as n-HR_DEPTH
hours_in : (number : Option ℕ) (hours : ℕ) → over_hours number ≡ Some (HourDepth hours) → (number ≡ Some hours) × (are_hours hours ≡ true)
hours_in None hours e = absurd (no_attribute (HourDepth hours) e)
hours_in (Some n) hours e = by_test (are_hours n) refl e
  where
    by_test : (t : Bool) → are_hours n ≡ t → (if t then Some (HourDepth n) else None) ≡ Some (HourDepth hours) → (Some n ≡ Some hours) × (are_hours hours ≡ true)
    by_test true h e =
        let same : n ≡ hours = cc in
        (ap Some same, ap are_hours (sym same) ∙ h)
    by_test false h e = absurd (no_attribute (HourDepth hours) e)

by_end : (t : Bool) (item : List ℕ) (hours : ℕ) → is_word (drop (before_end item) item) hours_end ≡ t
    → (if t then over_hours (count_of (take (before_end item) item)) else None) ≡ Some (HourDepth hours)
    → IsTrue (is_word item (decimal hours ++ hours_end)) × IsTrue (are_hours hours)
by_end true item hours h e =
    let parts = hours_in (count_of (take (before_end item) item)) hours e in
    let number = counts-written (take (before_end item) item) hours parts.0 in (
      same_word item (decimal hours ++ hours_end)
          (parts_joined (before_end item) item (decimal hours) hours_end (ap str_to_ascii_lowercase number) (word_same (drop (before_end item) item) hours_end h)),
      parts.1,
    )
by_end false item hours h e = absurd (no_attribute (HourDepth hours) e)

pub hour_read : (item : List ℕ) (hours : ℕ) → hour_depth item ≡ Some (HourDepth hours) → IsTrue (is_word item (decimal hours ++ hours_end)) × IsTrue (are_hours hours)
unfolding hour_depth
hour_read item hours e = by_end (is_word (drop (before_end item) item) hours_end) item hours refl e

pub hour_back : (item : List ℕ) (hours : ℕ) → IsTrue (is_word item (decimal hours ++ hours_end)) → IsTrue (are_hours hours) → hour_depth item ≡ Some (HourDepth hours)
unfolding hour_depth
hour_back item hours h fit =
    let parts = parts_of item (decimal hours) (word_same item (decimal hours ++ hours_end) h) in
    let number : take (before_end item) item ≡ decimal hours = digits_lower (take (before_end item) item) (decimal hours) (decimal_is_IsNumeral hours (small hours fit)).0.1 parts.number in
    let value : count_of (take (before_end item) item) ≡ Some hours = ap count_of number ∙ counts-back hours (small hours fit) in
    let ended : is_word (drop (before_end item) item) hours_end ≡ true = same_word (drop (before_end item) item) hours_end parts.ended in
    ap₂ (λ (t : Bool) (number : Option ℕ). if t then over_hours number else None) ended value
    ∙ ap (λ (t : Bool). if t then Some (HourDepth hours) else None) fit

-- what is read as n-HR_DEPTH is no other attribute
pub hour_none : (item : List ℕ) (a : Attr) → hour_depth item ≡ Some a → is_plain a ≡ false
unfolding hour_depth
hour_none item a e = by_test (is_word (drop (before_end item) item) hours_end) e
  where
    fit : (number : Option ℕ) → over_hours number ≡ Some a → is_plain a ≡ false
    fit None e = absurd (no_attribute a e)
    fit (Some n) e = tested (are_hours n) e
      where
        tested : (t : Bool) → (if t then Some (HourDepth n) else None) ≡ Some a → is_plain a ≡ false
        tested true e =
            let same : HourDepth n ≡ a = cc in
            ap is_plain (sym same)
        tested false e = absurd (no_attribute a e)

    by_test : (t : Bool) → (if t then over_hours (count_of (take (before_end item) item)) else None) ≡ Some a → is_plain a ≡ false
    by_test true e = fit (count_of (take (before_end item) item)) e
    by_test false e = absurd (no_attribute a e)
