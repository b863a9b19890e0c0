-- Dates and days of a year are read exactly from their parts.
use Rattle.std.specs.Prelude.{◌↔◌, ◌==◌, ◌&&◌, nat_lt, nat_le, option_and_then}
use Rattle.std.proofs.Common.{◌≡◌, ◌⊎◌, inl, inr, ℕ, ◌+◌, ◌<◌, ◌≤◌, Bool, true, false, cond, List, [], ◌∷◌, ◌++◌, length, Option, None, Some, refl, sym, ap, subst, ◌∙◌, arith, append_assoc, append-nil, ℤ, pos}
use Rattle.std.specs.Option.{option_or}
use Rattle.std.proofs.lemmas.Bool.Decides.{nat_tests}
use Rattle.std.specs.Str.Parse.{digits_value}
use Rattle.jiff_core.specs.Calendar.{days_from_civil, day_of_year}
use Rattle.num_text.specs.Fields.{Field, leading_digits, past_digits, field, past, is_end, last_number}
use Rattle.num_text.specs.Dates.{is_day, day_number, Dated, month_day_year, year_month_day, last_day, date_of, place_in_year, month_and_day, day_by_number, day_of_year_of}
use Rattle.num_text.specs.NumberText.{AllDigits, IsDigits}
use Rattle.num_text.specs.DateText.{DateParts, IsReal, IsDateText, IsIsoDateText, day_of_parts, MonthDayParts, IsMonthDayText, place_of_parts, IsDayNumberText}
use Rattle.num_text.proofs.Cuts.{is_apart, cut}
use Rattle.num_text.proofs.Numerals.{ended}
use Rattle.num_text.proofs.Grammar.{then_some, cond_some, past_is, field_is, IsWholeOf, last_field_is, field_shape, field_of_digits, last_field_of_digits}

same_some : {A : Type 0} (x y : A) → Some x ≡ Some y → x ≡ y
same_some x y e = cc

-- ---- what a reading tells of the text
-- the text of a date at the head of a text
pub record IsDated (form : List ℕ → DateParts → Type 0) (text : List ℕ) (found : Dated) : Type 0 where
  pub date : List ℕ
  pub parts : DateParts
  pub joined : text ≡ date ++ found.rest
  pub formed : form date parts
  pub value : day_of_parts parts ≡ found.day

five : (a b c r : List ℕ) (s : ℕ) → a ++ s ∷ (b ++ s ∷ (c ++ r)) ≡ (a ++ s ∷ (b ++ s ∷ c)) ++ r
five a b c r s = simp append_assoc

-- the number of a day that the calendar has
day_is : (year month day : ℕ) (number : ℤ) → day_number year month day ≡ Some number → (is_day year month day ≡ true) × (days_from_civil (pos year) month day ≡ number)
day_is year month day number e =
    let known = cond_some (is_day year month day) (days_from_civil (pos year) month day) number e in
    (known.0, same_some (days_from_civil (pos year) month day) number known.1)

pub date_is : (separator : ℕ) (text : List ℕ) (found : Dated) → month_day_year separator text ≡ Some found → IsDated (IsDateText separator) text found
unfolding month_day_year
date_is separator text found e =
    let month = then_some (field 1 2 text) _ found e in
    let behind_month = then_some (past separator month.0.rest) _ found month.2 in
    let day = then_some (field 1 2 behind_month.0) _ found behind_month.2 in
    let behind_day = then_some (past separator day.0.rest) _ found day.2 in
    let year = then_some (field 4 4 behind_day.0) _ found behind_day.2 in
    let number = then_some (day_number year.0.number month.0.number day.0.number) _ found year.2 in
    let m = field_is 1 2 text month.0 month.1 in
    let d = field_is 1 2 behind_month.0 day.0 day.1 in
    let y = field_is 4 4 behind_day.0 year.0 year.1 in
    let real = day_is year.0.number month.0.number day.0.number number.0 number.1 in
    let same = same_some _ found number.2 in
    record {
      date = leading_digits text ++ separator ∷ (leading_digits behind_month.0 ++ separator ∷ leading_digits behind_day.0);
      parts = record { month = leading_digits text; day = leading_digits behind_month.0; year = leading_digits behind_day.0 };
      joined = m.joined ∙ ap (λ r. leading_digits text ++ r)
          (past_is separator month.0.rest behind_month.0 behind_month.1
          ∙ ap (λ r. separator ∷ r) (d.joined ∙ ap (λ r. leading_digits behind_month.0 ++ r)
          (past_is separator day.0.rest behind_day.0 behind_day.1
          ∙ ap (λ r. separator ∷ r) (y.joined ∙ ap (λ f. leading_digits behind_day.0 ++ f.rest) same))))
          ∙ five (leading_digits text) (leading_digits behind_month.0) (leading_digits behind_day.0) found.rest separator;
      formed = record { joined = refl; month = m.digits; day = d.digits; year = y.digits; real = rw (m.value, d.value, y.value) real.0 };
      value = rw (m.value, d.value, y.value) (real.1 ∙ ap (λ f. f.day) same);
    }

pub iso_is : (text : List ℕ) (found : Dated) → year_month_day text ≡ Some found → IsDated IsIsoDateText text found
unfolding year_month_day
iso_is text found e =
    let year = then_some (field 4 4 text) _ found e in
    let behind_year = then_some (past 45 year.0.rest) _ found year.2 in
    let month = then_some (field 2 2 behind_year.0) _ found behind_year.2 in
    let behind_month = then_some (past 45 month.0.rest) _ found month.2 in
    let day = then_some (field 2 2 behind_month.0) _ found behind_month.2 in
    let number = then_some (day_number year.0.number month.0.number day.0.number) _ found day.2 in
    let y = field_is 4 4 text year.0 year.1 in
    let m = field_is 2 2 behind_year.0 month.0 month.1 in
    let d = field_is 2 2 behind_month.0 day.0 day.1 in
    let real = day_is year.0.number month.0.number day.0.number number.0 number.1 in
    let same = same_some _ found number.2 in
    record {
      date = leading_digits text ++ 45 ∷ (leading_digits behind_year.0 ++ 45 ∷ leading_digits behind_month.0);
      parts = record { month = leading_digits behind_year.0; day = leading_digits behind_month.0; year = leading_digits text };
      joined = y.joined ∙ ap (λ r. leading_digits text ++ r)
          (past_is 45 year.0.rest behind_year.0 behind_year.1
          ∙ ap (λ r. 45 ∷ r) (m.joined ∙ ap (λ r. leading_digits behind_year.0 ++ r)
          (past_is 45 month.0.rest behind_month.0 behind_month.1
          ∙ ap (λ r. 45 ∷ r) (d.joined ∙ ap (λ f. leading_digits behind_month.0 ++ f.rest) same))))
          ∙ five (leading_digits text) (leading_digits behind_year.0) (leading_digits behind_month.0) found.rest 45;
      formed = record { joined = refl; month = m.digits; day = d.digits; year = y.digits; real = rw (m.value, d.value, y.value) real.0 };
      value = rw (m.value, d.value, y.value) (real.1 ∙ ap (λ f. f.day) same);
    }

-- ---- what the parts tell of the reading
day_of : (p : DateParts) → IsReal p → day_number (digits_value 10 p.year) (digits_value 10 p.month) (digits_value 10 p.day) ≡ Some (day_of_parts p)
day_of p real = rw real refl

same_byte : (byte : ℕ) → (byte == byte) ≡ true
same_byte byte = grind (arith, nat_tests)

date_read : (separator : ℕ) (p : DateParts) (rest : List ℕ) → is_apart (separator ∷ []) ≡ true → is_apart rest ≡ true → IsDigits 1 2 p.month → IsDigits 1 2 p.day → IsDigits 4 4 p.year → IsReal p → month_day_year separator (p.month ++ separator ∷ (p.day ++ separator ∷ (p.year ++ rest))) ≡ Some (record { day = day_of_parts p; rest = rest })
unfolding month_day_year
date_read separator p rest apart ends month day year real =
    let here = same_byte separator in
    rw (field_of_digits 1 2 p.month (separator ∷ (p.day ++ separator ∷ (p.year ++ rest))) month apart)
    (rw here (rw (field_of_digits 1 2 p.day (separator ∷ (p.year ++ rest)) day apart)
    (rw here (rw (field_of_digits 4 4 p.year rest year ends) (rw (day_of p real) refl)))))

pub date_of_parts : (separator : ℕ) (text : List ℕ) (p : DateParts) (rest : List ℕ) → is_apart (separator ∷ []) ≡ true → is_apart rest ≡ true → IsDateText separator text p → month_day_year separator (text ++ rest) ≡ Some (record { day = day_of_parts p; rest = rest })
date_of_parts separator text p rest apart ends known =
    ap (λ t. month_day_year separator t) (ap (λ t. t ++ rest) known.joined ∙ sym (five p.month p.day p.year rest separator))
    ∙ date_read separator p rest apart ends known.month known.day known.year known.real

pub iso_of_parts : (text : List ℕ) (p : DateParts) (rest : List ℕ) → is_apart rest ≡ true → IsIsoDateText text p → year_month_day (text ++ rest) ≡ Some (record { day = day_of_parts p; rest = rest })
unfolding year_month_day
iso_of_parts text p rest ends known =
    rw (ap (λ t. t ++ rest) known.joined ∙ sym (five p.year p.month p.day rest 45))
    (rw (field_of_digits 4 4 p.year (45 ∷ (p.month ++ 45 ∷ (p.day ++ rest))) known.year refl)
    (rw (field_of_digits 2 2 p.month (45 ∷ (p.day ++ rest)) known.month refl)
    (rw (field_of_digits 2 2 p.day rest known.day ends) (rw (day_of p known.real) refl))))

-- a date with hyphens has no slash behind its month, and one with slashes does not begin with four digits
hyphens_no_slash : (text : List ℕ) (p : DateParts) → IsDateText 45 text p → month_day_year 47 text ≡ None
unfolding month_day_year
hyphens_no_slash text p known =
    rw known.joined (rw (field_of_digits 1 2 p.month (45 ∷ (p.day ++ 45 ∷ p.year)) known.month refl) refl)

pub slashes_no_iso : (text : List ℕ) (p : DateParts) (rest : List ℕ) → IsDateText 47 text p → year_month_day (text ++ rest) ≡ None
unfolding year_month_day
slashes_no_iso text p rest known =
    let shape = field_shape 4 4 p.month (47 ∷ (p.day ++ 47 ∷ (p.year ++ rest))) known.month.alone refl in
    let most = known.month.at_most in
    let short : nat_le 4 (length p.month) ≡ false = grind (arith, nat_tests) in
    rw (ap (λ t. t ++ rest) known.joined ∙ sym (five p.month p.day p.year rest 47)) (rw shape (rw short refl))

-- ---- a date that is the whole text
last_day_is : (form : List ℕ → DateParts → Type 0) (text : List ℕ) (found : Option Dated) (number : ℤ) → ((dated : Dated) → found ≡ Some dated → IsDated form text dated) → last_day found ≡ Some number → (p : DateParts) × form text p × (day_of_parts p ≡ number)
last_day_is form text found number read e =
    let step = then_some found (λ dated. cond (is_end dated.rest) (Some dated.day) None) number e in
    let known = cond_some (is_end step.0.rest) step.0.day number step.2 in
    let dated = read step.0 step.1 in
    let same : dated.date ≡ text = sym (dated.joined ∙ ap (λ r. dated.date ++ r) (ended step.0.rest known.0) ∙ append-nil dated.date) in
    (dated.parts, subst (λ t. form t dated.parts) same dated.formed, dated.value ∙ same_some step.0.day number known.1)

last_day_of : (separator : ℕ) (text : List ℕ) (p : DateParts) → is_apart (separator ∷ []) ≡ true → IsDateText separator text p → last_day (month_day_year separator text) ≡ Some (day_of_parts p)
last_day_of separator text p apart known =
    let read = date_of_parts separator text p [] apart refl known in
    let whole : month_day_year separator text ≡ Some (record { day = day_of_parts p; rest = [] }) = rw (append-nil text) at read in
    rw whole refl

pub IsEitherDate : List ℕ → ℤ → Type 0
IsEitherDate text number = (p : DateParts) × (IsDateText 47 text p ⊎ IsDateText 45 text p) × (day_of_parts p ≡ number)

either_by : (text : List ℕ) (number : ℤ) (found : Option ℤ) → last_day (month_day_year 47 text) ≡ found → option_or found (last_day (month_day_year 45 text)) ≡ Some number → IsEitherDate text number
unfolding IsEitherDate
either_by text number None e f =
    let known = last_day_is (IsDateText 45) text (month_day_year 45 text) number (date_is 45 text) f in
    (known.0, inr known.1, known.2)
either_by text number (Some day) e f =
    let same : day ≡ number = cc in
    let known = last_day_is (IsDateText 47) text (month_day_year 47 text) day (date_is 47 text) e in
    (known.0, inl known.1, known.2 ∙ same)

either_of : (text : List ℕ) (p : DateParts) → IsDateText 47 text p ⊎ IsDateText 45 text p → date_of text ≡ Some (day_of_parts p)
either_of text p (inl known) = rw (last_day_of 47 text p refl known) refl
either_of text p (inr known) = rw (hyphens_no_slash text p known) (last_day_of 45 text p refl known)

date_found : (text : List ℕ) (number : ℤ) → date_of text ≡ Some number → IsEitherDate text number
date_found text number e = either_by text number (last_day (month_day_year 47 text)) refl e

pub date-read : (text : List ℕ) (number : ℤ) → date_of text ≡ Some number ↔ ((p : DateParts) × (IsDateText 47 text p ⊎ IsDateText 45 text p) × (day_of_parts p ≡ number))
unfolding IsEitherDate
date-read text number = (date_found text number, λ known. either_of text known.0 known.1 ∙ ap Some known.2)

-- ---- days of a year
pub IsMonthDay : List ℕ → ℕ → Type 0
IsMonthDay text place = (p : MonthDayParts) × IsMonthDayText text p × (place_of_parts p ≡ place)

month_day_is : (text : List ℕ) (place : ℕ) → month_and_day text ≡ Some place → IsMonthDay text place
unfolding month_and_day IsMonthDay
month_day_is text place e =
    let month = then_some (field 1 2 text) _ place e in
    let behind_month = then_some (past 47 month.0.rest) _ place month.2 in
    let day = then_some (last_number (field 1 2 behind_month.0)) _ place behind_month.2 in
    let m = field_is 1 2 text month.0 month.1 in
    let d = last_field_is 1 2 behind_month.0 day.0 day.1 in
    let known = cond_some (is_day 2001 month.0.number day.0) (day_of_year (pos 2001) month.0.number day.0) place day.2 in
    let same = same_some (day_of_year (pos 2001) month.0.number day.0) place known.1 in (
      record { month = leading_digits text; day = behind_month.0 },
      record {
        joined = m.joined ∙ ap (λ r. leading_digits text ++ r) (past_is 47 month.0.rest behind_month.0 behind_month.1);
        month = m.digits;
        day = d.digits;
        real = rw (m.value, d.value) known.0;
      },
      rw (m.value, d.value) same,
    )

month_day_of : (text : List ℕ) (p : MonthDayParts) → IsMonthDayText text p → month_and_day text ≡ Some (place_of_parts p)
unfolding month_and_day
month_day_of text p known =
    rw known.joined
    (rw (field_of_digits 1 2 p.month (47 ∷ p.day) known.month refl) (rw (last_field_of_digits 1 2 p.day known.day) (rw known.real refl)))

number_is : (text : List ℕ) (place : ℕ) → day_by_number text ≡ Some place → IsDayNumberText text × (digits_value 10 text ≡ place)
unfolding day_by_number
number_is text place e =
    let day = then_some (last_number (field 1 3 text)) _ place e in
    let whole = last_field_is 1 3 text day.0 day.1 in
    let known = cond_some (nat_le 1 day.0 && nat_le day.0 366) day.0 place day.2 in
    let test = known.0 in
    let low : 1 ≤ day.0 = grind (arith, nat_tests) in
    let high : day.0 ≤ 366 = grind (arith, nat_tests) in
    let record_is : IsDayNumberText text = record { digits = whole.digits; first = rw whole.value low; last = rw whole.value high } in
    (record_is, whole.value ∙ same_some day.0 place known.1)

number_of : (text : List ℕ) → IsDayNumberText text → day_by_number text ≡ Some (digits_value 10 text)
unfolding day_by_number
number_of text known =
    let low = known.first in
    let high = known.last in
    let test : (nat_le 1 (digits_value 10 text) && nat_le (digits_value 10 text) 366) ≡ true = grind (arith, nat_tests) in
    rw (last_field_of_digits 1 3 text known.digits) (rw test refl)

-- digits alone have no slash
no_slash : (text : List ℕ) (number : ℕ) (test : Bool) → field 1 2 text ≡ cond test (Some (record { number = number; rest = [] })) None → month_and_day text ≡ None
unfolding month_and_day
no_slash text number true e = rw e refl
no_slash text number false e = rw e refl

digits_no_slash : (text : List ℕ) → AllDigits text → month_and_day text ≡ None
digits_no_slash text known =
    let shape = field_shape 1 2 text [] known refl in
    no_slash text (digits_value 10 text) (nat_le 1 (length text) && nat_le (length text) 2) (rw (append-nil text) at shape)

pub IsEitherPlace : List ℕ → ℕ → Type 0
IsEitherPlace text place = ((p : MonthDayParts) × IsMonthDayText text p × (place_of_parts p ≡ place)) ⊎ (IsDayNumberText text × (digits_value 10 text ≡ place))

place_by : (text : List ℕ) (place : ℕ) (found : Option ℕ) → month_and_day text ≡ found → option_or found (day_by_number text) ≡ Some place → IsEitherPlace text place
unfolding IsEitherPlace IsMonthDay
place_by text place None e f = inr (number_is text place f)
place_by text place (Some day) e f =
    let same : day ≡ place = cc in
    let known = month_day_is text day e in
    inl (known.0, known.1, known.2 ∙ same)

place_from : (text : List ℕ) (place : ℕ) → IsEitherPlace text place → day_of_year_of text ≡ Some place
unfolding IsEitherPlace
place_from text place (inl known) = rw (month_day_of text known.0 known.1) (ap Some known.2)
place_from text place (inr known) = rw (digits_no_slash text known.0.digits.alone) (number_of text known.0 ∙ ap Some known.1)

place_found : (text : List ℕ) (place : ℕ) → day_of_year_of text ≡ Some place → IsEitherPlace text place
place_found text place e = place_by text place (month_and_day text) refl e

pub day_of_year-read : (text : List ℕ) (place : ℕ) → day_of_year_of text ≡ Some place ↔ (((p : MonthDayParts) × IsMonthDayText text p × (place_of_parts p ≡ place)) ⊎ (IsDayNumberText text × (digits_value 10 text ≡ place)))
unfolding IsEitherPlace
day_of_year-read text place = (place_found text place, place_from text place)
