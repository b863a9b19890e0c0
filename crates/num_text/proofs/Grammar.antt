-- The steps of a reading, and the parts of a text that they leave.
use Rattle.std.proofs.Common.{◌≡◌, ℕ, ◌<◌, ◌≤◌, Bool, true, false, cond, List, [], ◌∷◌, ◌++◌, length, Option, None, Some, refl, sym, ap, ap₂, ◌∙◌, arith, append-nil}
use Rattle.std.specs.Prelude.{◌==◌, ◌&&◌, nat_le, nat_lt, option_and_then}
use Rattle.std.specs.List.{list_all}
use Rattle.std.specs.Char.{is_ascii_digit}
use Rattle.std.proofs.lemmas.Bool.Decides.{nat_tests}
use Rattle.std.specs.Str.Parse.{digits_value}
use Rattle.num_text.specs.Fields.{Field, leading_digits, past_digits, begins_with_digits, field, field_below, past, is_end, last_number}
use Rattle.num_text.specs.NumberText.{AllDigits, IsDigits}
use Rattle.num_text.proofs.Digits.{leading_digits-digits}
use Rattle.num_text.proofs.Cuts.{is_apart, cut, field-cut}
use Rattle.num_text.proofs.Numerals.{front_back, ended}

-- the first of two steps
pub then_some : {A B : Type 0} (found : Option A) (next : A → Option B) (y : B) → option_and_then next found ≡ Some y → (x : A) × (found ≡ Some x) × (next x ≡ Some y)
then_some None next y e = absurd cc
then_some (Some x) next y e = (x, refl, e)

-- a test, and what is given where it passes
pub cond_some : {A : Type 0} (test : Bool) (x y : A) → cond test (Some x) None ≡ Some y → (test ≡ true) × (Some x ≡ Some y)
cond_some true x y e = (refl, e)
cond_some false x y e = absurd cc

same_some : {A : Type 0} (x y : A) → Some x ≡ Some y → x ≡ y
same_some x y e = cc

pub past_is : (byte : ℕ) (text rest : List ℕ) → past byte text ≡ Some rest → text ≡ byte ∷ rest
past_is byte [] rest e = absurd cc
past_is byte (first ∷ more) rest e =
    let known = cond_some (first == byte) more rest e in
    let same : first ≡ byte = grind (arith, nat_tests) in
    ap₂ (λ a b. a ∷ b) same (same_some more rest known.1)

-- the digits that a field was read from
pub record IsFieldOf (least most : ℕ) (text : List ℕ) (found : Field) : Type 0 where
  pub joined : text ≡ leading_digits text ++ found.rest
  pub digits : IsDigits least most (leading_digits text)
  pub value : digits_value 10 (leading_digits text) ≡ found.number

pub field_is : (least most : ℕ) (text : List ℕ) (found : Field) → field least most text ≡ Some found → IsFieldOf least most text found
unfolding field
field_is least most text found e =
    let known = cond_some (begins_with_digits least most text) _ found e in
    let same = same_some _ found known.1 in
    let rest : past_digits text ≡ found.rest = ap (λ f. f.rest) same in
    let low : least ≤ length (leading_digits text) = grind (arith, nat_tests) in
    let high : length (leading_digits text) ≤ most = grind (arith, nat_tests) in
    record {
      joined = sym (front_back text) ∙ ap (λ r. leading_digits text ++ r) rest;
      digits = record { alone = leading_digits-digits text; at_least = low; at_most = high };
      value = ap (λ f. f.number) same;
    }

-- the same below a limit
pub field_below_is : (least most limit : ℕ) (text : List ℕ) (found : Field) → field_below least most limit text ≡ Some found → IsFieldOf least most text found × (found.number < limit)
unfolding field_below
field_below_is least most limit text found e =
    let step = then_some (field least most text) (λ f. cond (nat_lt f.number limit) (Some f) None) found e in
    let known = cond_some (nat_lt step.0.number limit) step.0 found step.2 in
    let same = same_some step.0 found known.1 in
    let below : step.0.number < limit = grind (arith, nat_tests) in
    (field_is least most text found (step.1 ∙ known.1), rw (ap (λ f. f.number) same) at below)

-- the same where the text ends behind it
pub record IsWholeOf (least most : ℕ) (text : List ℕ) (number : ℕ) : Type 0 where
  pub digits : IsDigits least most text
  pub value : digits_value 10 text ≡ number

pub last_number_is : (text : List ℕ) (found : Option Field) (number : ℕ) → last_number found ≡ Some number → (f : Field) × (found ≡ Some f) × (f.rest ≡ []) × (f.number ≡ number)
last_number_is text found number e =
    let step = then_some found (λ last. cond (is_end last.rest) (Some last.number) None) number e in
    let known = cond_some (is_end step.0.rest) step.0.number number step.2 in
    (step.0, step.1, ended step.0.rest known.0, same_some step.0.number number known.1)

whole_of : (least most number : ℕ) (text rest : List ℕ) (found : Field) → IsFieldOf least most text found → found.rest ≡ [] → found.number ≡ number → IsWholeOf least most text number
whole_of least most number text rest found known none same =
    let all : leading_digits text ≡ text = sym (known.joined ∙ ap (λ r. leading_digits text ++ r) none ∙ append-nil (leading_digits text)) in
    record { digits = rw all at known.digits; value = rw all at (known.value ∙ same) }

pub last_field_is : (least most : ℕ) (text : List ℕ) (number : ℕ) → last_number (field least most text) ≡ Some number → IsWholeOf least most text number
last_field_is least most text number e =
    let step = last_number_is text (field least most text) number e in
    whole_of least most number text step.0.rest step.0 (field_is least most text step.0 step.1) step.2 step.3

-- what a field is read as behind digits
pub field_shape : (least most : ℕ) (digits rest : List ℕ) → AllDigits digits → is_apart rest ≡ true → field least most (digits ++ rest) ≡ cond (nat_le least (length digits) && nat_le (length digits) most) (Some (record { number = digits_value 10 digits; rest = rest })) None
unfolding field
field_shape least most digits rest known apart =
    let parts = cut digits rest known apart in
    rw (parts.front, parts.back) refl

-- ---- the field of digits, and of digits that the text ends with
pub field_of_digits : (least most : ℕ) (digits rest : List ℕ) → IsDigits least most digits → is_apart rest ≡ true → field least most (digits ++ rest) ≡ Some (record { number = digits_value 10 digits; rest = rest })
field_of_digits least most digits rest known apart = field-cut least most digits rest known.alone apart known.at_least known.at_most

pub field_below_of_digits : (least most limit : ℕ) (digits rest : List ℕ) → IsDigits least most digits → digits_value 10 digits < limit → is_apart rest ≡ true → field_below least most limit (digits ++ rest) ≡ Some (record { number = digits_value 10 digits; rest = rest })
unfolding field_below
field_below_of_digits least most limit digits rest known less apart =
    let below : nat_lt (digits_value 10 digits) limit ≡ true = grind (arith, nat_tests) in
    rw (field_of_digits least most digits rest known apart) (rw below refl)

pub last_field_of_digits : (least most : ℕ) (digits : List ℕ) → IsDigits least most digits → last_number (field least most digits) ≡ Some (digits_value 10 digits)
last_field_of_digits least most digits known =
    let read = field_of_digits least most digits [] known refl in
    let whole : field least most digits ≡ Some (record { number = digits_value 10 digits; rest = [] }) = rw (append-nil digits) at read in
    rw whole refl
