-- The length of a number at the head of a text is that of the longest front that is a number.
use Rattle.std.proofs.Common.{◌≡◌, ◌⊎◌, inl, inr, ℕ, zero, suc, ◌+◌, ◌<◌, ◌≤◌, Bool, true, false, ◌&&◌, ◌||◌, ◌==◌, nat_le, min, if◌then◌else◌, List, [], ◌∷◌, ◌++◌, length, take, drop, Option, None, Some, refl, sym, ap, ap₂, ◌∙◌, subst, arith, append_assoc, length-append, length-take}
use Rattle.std.proofs.lemmas.Bool.Decides.{nat_tests}
use Rattle.std.specs.List.{list_all}
use Rattle.std.specs.Char.{is_ascii_digit}
use Rattle.num_text.specs.NumberText.{AllDigits, Sign, NoSign, Plus, Minus, sign_text, PowerParts, NumberParts, point_text, digits_behind, power_text, IsPowerIfAny}
use Rattle.std.specs.List.{prefix_len}
use Rattle.std.proofs.Common.{Err}
use Rattle.num_text.specs.Numbers.{number_of}
use Rattle.num_text.specs.declared.error.NumberFault.TheVariants.{BadNumber}
use Rattle.num_text.proofs.PublicLaws.{number_grammar-no_number}
use Rattle.expr_parser.specs.declared.token.TokenKind.TheVariants as kinds
use Rattle.expr_parser.specs.Tokens.{begins_name, continues_name, digit_count, fraction_length, sign_length, power_length, exponent_length, length_from, number_length, sign_kind, number_or_sign, lexeme}
use Rattle.expr_parser.specs.LongestNumbers.{IsUnsignedNumber, IsLongestNumber}

-- a front of a text, and what stands behind it
past_front : (front back : List ℕ) → drop (length front) (front ++ back) ≡ back
past_front [] back = refl
past_front (x ∷ front) back = past_front front back

only_front : (front back : List ℕ) → take (length front) (front ++ back) ≡ front
only_front [] back = refl
only_front (x ∷ front) back = ap (λ xs. x ∷ xs) (only_front front back)

behind_front : (text front back : List ℕ) (n : ℕ) → text ≡ front ++ back → n ≡ length front → drop n text ≡ back
behind_front text front back n joined e = ap₂ (λ k xs. drop k xs) e joined ∙ past_front front back

-- ---- the parts that a text begins with
-- the digits at its head
record DigitsFront (text : List ℕ) : Type 0 where
  front : List ℕ
  back : List ℕ
  joined : text ≡ front ++ back
  alone : AllDigits front
  count : digit_count text ≡ length front

by_digit : (byte : ℕ) (bytes : List ℕ) (t : Bool) → is_ascii_digit byte ≡ t → DigitsFront bytes → DigitsFront (byte ∷ bytes)
by_digit byte bytes true e d = record {
  front = byte ∷ d.front;
  back = d.back;
  joined = ap (λ xs. byte ∷ xs) d.joined;
  alone = rw (e) d.alone;
  count = rw (e) (omega (arith, d.count));
}
by_digit byte bytes false e d = record { front = []; back = byte ∷ bytes; joined = refl; alone = refl; count = rw (e) refl }

digits_front : (text : List ℕ) → DigitsFront text
digits_front [] = record { front = []; back = []; joined = refl; alone = refl; count = refl }
digits_front (byte ∷ bytes) = by_digit byte bytes (is_ascii_digit byte) refl (digits_front bytes)

-- the point at its head, and the digits behind it
record FractionFront (text : List ℕ) : Type 0 where
  behind : Option (List ℕ)
  back : List ℕ
  joined : text ≡ point_text behind ++ back
  alone : AllDigits (digits_behind behind)
  count : fraction_length text ≡ length (point_text behind)

by_point : (byte : ℕ) (bytes : List ℕ) (t : Bool) → (byte == 46) ≡ t → DigitsFront bytes → FractionFront (byte ∷ bytes)
by_point byte bytes true e d =
    let same : byte ≡ 46 = grind (arith, nat_tests) in
    record {
      behind = Some d.front;
      back = d.back;
      joined = ap₂ (λ x xs. x ∷ xs) same d.joined;
      alone = d.alone;
      count = rw (e) (omega (arith, d.count));
    }
by_point byte bytes false e d = record { behind = None; back = byte ∷ bytes; joined = refl; alone = refl; count = rw (e) refl }

fraction_front : (text : List ℕ) → FractionFront text
fraction_front [] = record { behind = None; back = []; joined = refl; alone = refl; count = refl }
fraction_front (byte ∷ bytes) = by_point byte bytes (byte == 46) refl (digits_front bytes)

-- the sign at its head
record SignFront (text : List ℕ) : Type 0 where
  sign : Sign
  back : List ℕ
  joined : text ≡ sign_text sign ++ back
  count : sign_length text ≡ length (sign_text sign)

by_sign : (byte : ℕ) (bytes : List ℕ) (plus minus : Bool) → (byte == 43) ≡ plus → (byte == 45) ≡ minus → SignFront (byte ∷ bytes)
by_sign byte bytes true minus e f =
    let same : byte ≡ 43 = grind (arith, nat_tests) in
    record { sign = Plus; back = bytes; joined = ap (λ x. x ∷ bytes) same; count = rw (e) refl }
by_sign byte bytes false true e f =
    let same : byte ≡ 45 = grind (arith, nat_tests) in
    record { sign = Minus; back = bytes; joined = ap (λ x. x ∷ bytes) same; count = rw (e, f) refl }
by_sign byte bytes false false e f = record { sign = NoSign; back = byte ∷ bytes; joined = refl; count = rw (e, f) refl }

sign_front : (text : List ℕ) → SignFront text
sign_front [] = record { sign = NoSign; back = []; joined = refl; count = refl }
sign_front (byte ∷ bytes) = by_sign byte bytes (byte == 43) (byte == 45) refl refl

-- at most three of some digits
first_digits : (n : ℕ) (digits : List ℕ) → AllDigits digits → AllDigits (take n digits)
first_digits zero digits e = refl
first_digits (suc n) [] e = refl
first_digits (suc n) (digit ∷ digits) e =
    let here : is_ascii_digit digit ≡ true = grind arith in
    let more : list_all is_ascii_digit digits ≡ true = grind arith in
    rw (here) (first_digits n digits more)

front_back : (n : ℕ) (xs : List ℕ) → xs ≡ take n xs ++ drop n xs
front_back zero xs = refl
front_back (suc n) [] = refl
front_back (suc n) (x ∷ xs) = ap (λ ys. x ∷ ys) (front_back n xs)

-- the power of ten at its head
record PowerFront (text : List ℕ) : Type 0 where
  power : Option PowerParts
  back : List ℕ
  joined : text ≡ power_text power ++ back
  is : IsPowerIfAny power
  count : exponent_length text ≡ length (power_text power)

no_power : (text : List ℕ) → exponent_length text ≡ 0 → PowerFront text
no_power text e = record { power = None; back = text; joined = refl; is = tt; count = e }

marked_by : (byte : ℕ) (one other : Bool) → (byte == 101) ≡ one → (byte == 69) ≡ other → (one || other) ≡ true → (byte ≡ 101) ⊎ (byte ≡ 69)
marked_by byte true other e f h = inl (grind (arith, nat_tests))
marked_by byte false true e f h = inr (grind (arith, nat_tests))
marked_by byte false false e f h = absurd cc

-- so many digits of a power are read
three : (sign digits : ℕ) → power_length sign (suc digits) ≡ suc (sign + min (suc digits) 3)
three sign digits =
    let some : (suc digits == 0) ≡ false = grind (arith, nat_tests) in
    let e : 1 + (sign + min (suc digits) 3) ≡ suc (sign + min (suc digits) 3) = omega arith in
    rw (some) e

exponent_by : (mark : ℕ) (bytes : List ℕ) (sign count : ℕ) → (mark == 101 || mark == 69) ≡ true → sign_length bytes ≡ sign → digit_count (drop sign bytes) ≡ count
    → exponent_length (mark ∷ bytes) ≡ power_length sign count
exponent_by mark bytes sign count e f g = rw (e, f, g) refl

marked_power : (byte : ℕ) (bytes : List ℕ) → (byte == 101 || byte == 69) ≡ true → (s : SignFront bytes) → (d : DigitsFront s.back) → PowerFront (byte ∷ bytes)
marked_power byte bytes e s d = by_digits d.front d.joined d.alone d.count
  where
    length_is : exponent_length (byte ∷ bytes) ≡ power_length (length (sign_text s.sign)) (digit_count s.back)
    length_is =
        let behind = behind_front bytes (sign_text s.sign) s.back (length (sign_text s.sign)) s.joined refl in
        exponent_by byte bytes (length (sign_text s.sign)) (digit_count s.back) e s.count (ap digit_count behind)

    by_digits : (front : List ℕ) → s.back ≡ front ++ d.back → AllDigits front → digit_count s.back ≡ length front → PowerFront (byte ∷ bytes)
    by_digits [] joined alone count = no_power (byte ∷ bytes) (length_is ∙ ap (power_length (length (sign_text s.sign))) count)
    by_digits (digit ∷ digits) joined alone count =
        let front = digit ∷ digits in
        let short = take 3 front in
        let long = length-take 3 front in
        let read = ap (power_length (length (sign_text s.sign))) count ∙ three (length (sign_text s.sign)) (length digits) in
        let whole : bytes ≡ (sign_text s.sign ++ short) ++ (drop 3 front ++ d.back) =
        s.joined ∙ ap (λ xs. sign_text s.sign ++ xs) (joined ∙ ap (λ xs. xs ++ d.back) (front_back 3 front) ∙ append_assoc short (drop 3 front) d.back)
        ∙ sym (append_assoc (sign_text s.sign) short (drop 3 front ++ d.back)) in
        let size = length-append (sign_text s.sign) short in
        record {
          power = Some (record { mark = byte; sign = s.sign; digits = short });
          back = drop 3 front ++ d.back;
          joined = ap (λ xs. byte ∷ xs) whole;
          is = record {
            marked = marked_by byte (byte == 101) (byte == 69) refl refl e;
            digits = record { alone = first_digits 3 front alone; at_least = omega (arith, long); at_most = omega (arith, long) };
          };
          count = length_is ∙ read ∙ (omega (arith, long, size));
        }

by_mark : (byte : ℕ) (bytes : List ℕ) (t : Bool) → (byte == 101 || byte == 69) ≡ t → PowerFront (byte ∷ bytes)
by_mark byte bytes true e = let s = sign_front bytes in marked_power byte bytes e s (digits_front s.back)
by_mark byte bytes false e = no_power (byte ∷ bytes) (rw (e) refl)

power_front : (text : List ℕ) → PowerFront text
power_front [] = no_power [] refl
power_front (byte ∷ bytes) = by_mark byte bytes (byte == 101 || byte == 69) refl

-- ---- the number that a text begins with
length_by : (text : List ℕ) (whole fraction : ℕ) → digit_count text ≡ whole → fraction_length (drop whole text) ≡ fraction
    → number_length text ≡ length_from text whole fraction
unfolding number_length
length_by text whole fraction e f = rw (e, f) refl

parts_length : (whole fraction behind : List ℕ) → length (whole ++ (fraction ++ behind)) ≡ length whole + (length fraction + length behind)
parts_length whole fraction behind = length-append whole (fraction ++ behind) ∙ ap (λ n. length whole + n) (length-append fraction behind)

some_by : (whole fraction : ℕ) (t : Bool) (n : ℕ) → (whole == 0 && nat_le fraction 1) ≡ t → 0 < (if t then 0 else n) → (1 ≤ whole) ⊎ (2 ≤ fraction)
some_by whole fraction true n e h = absurd (omega arith)
some_by zero fraction false n e h = let more : nat_le fraction 1 ≡ false = e in inr (grind (arith, nat_tests))
some_by (suc whole) fraction false n e h = inl (omega arith)

if_some : (whole fraction n : ℕ) → (1 ≤ whole) ⊎ (2 ≤ fraction) → (if whole == 0 && nat_le fraction 1 then 0 else n) ≡ n
if_some (suc whole) fraction n h = let some : (suc whole == 0) ≡ false = grind (arith, nat_tests) in rw (some) refl
if_some zero fraction n (inl h) = absurd (omega arith)
if_some zero fraction n (inr h) = let more : nat_le fraction 1 ≡ false = grind (arith, nat_tests) in rw (more) refl

digits_some : (whole : List ℕ) (behind : Option (List ℕ)) → (1 ≤ length whole) ⊎ (2 ≤ length (point_text behind)) → 1 ≤ length (whole ++ digits_behind behind)
digits_some whole behind (inl h) = let e = length-append whole (digits_behind behind) in omega (arith, e)
digits_some whole None (inr h) = absurd (omega arith)
digits_some whole (Some digits) (inr h) = let e = length-append whole digits in omega (arith, e)

three_parts : (a b c back : List ℕ) → (a ++ (b ++ c)) ++ back ≡ a ++ (b ++ (c ++ back))
three_parts a b c back = append_assoc a (b ++ c) back ∙ ap (λ xs. a ++ xs) (append_assoc b c back)

-- the front that the length of a number gives
record IsNumberFront (text : List ℕ) (count : ℕ) : Type 0 where
  within : count ≤ length text
  number : IsUnsignedNumber (take count text)

number_by : (text : List ℕ) (d : DigitsFront text) (f : FractionFront d.back) (p : PowerFront f.back) → 0 < number_length text → IsNumberFront text (number_length text)
number_by text d f p some =
    let whole = length d.front in
    let point = point_text f.behind in
    let power = power_text p.power in
    let fraction = length point in
    let behind = behind_front text d.front d.back whole d.joined refl in
    let size = length_by text whole fraction d.count (ap fraction_length behind ∙ f.count) in
    let joined = d.joined ∙ ap (λ xs. d.front ++ xs) f.joined in
    let past = behind_front text (d.front ++ point) f.back (whole + fraction) (joined ∙ sym (append_assoc d.front point f.back)) (sym (length-append d.front point)) in
    let more : ℕ = whole + (fraction + length power) in
    let all : length_from text whole fraction ≡ (if whole == 0 && nat_le fraction 1 then 0 else whole + (fraction + length power)) =
    ap (λ n. if whole == 0 && nat_le fraction 1 then 0 else whole + (fraction + n)) (ap exponent_length past ∙ p.count) in
    let there = some_by whole fraction (whole == 0 && nat_le fraction 1) (whole + (fraction + length power)) refl (subst (λ n. 0 < n) (size ∙ all) some) in
    let count = size ∙ all ∙ if_some whole fraction (whole + (fraction + length power)) there in
    let front = d.front ++ (point ++ power) in
    let length_is : number_length text ≡ length front = count ∙ sym (parts_length d.front point power) in
    let text_is : text ≡ front ++ p.back =
    joined ∙ ap (λ xs. d.front ++ (point ++ xs)) p.joined ∙ sym (three_parts d.front point power p.back) in
    let cut : take (number_length text) text ≡ front = ap₂ (λ n xs. take n xs) length_is text_is ∙ only_front front p.back in
    let longer : length text ≡ length front + length p.back = ap length text_is ∙ length-append front p.back in
    record {
      within = omega (arith, length_is, longer);
      number = record {
        parts = record { sign = NoSign; whole = d.front; behind = f.behind; power = p.power };
        written = record { joined = cut; whole = d.alone; behind = f.alone; some = digits_some d.front f.behind there; power = p.is };
        unsigned = refl;
      };
    }

number_is : (text : List ℕ) → 0 < number_length text → IsNumberFront text (number_length text)
number_is text some =
    let d = digits_front text in
    let f = fraction_front d.back in
    number_by text d f (power_front f.back) some

-- ---- no longer front is a number
digits_more : (front back : List ℕ) → AllDigits front → digit_count (front ++ back) ≡ length front + digit_count back
digits_more [] back e = omega arith
digits_more (digit ∷ front) back e =
    let here : is_ascii_digit digit ≡ true = grind arith in
    let more : list_all is_ascii_digit front ≡ true = grind arith in
    let later = digits_more front back more in
    rw (here) (omega (arith, later))

-- the mark of a power is no digit and no point
record IsMark (byte : ℕ) (bytes : List ℕ) : Type 0 where
  digits : digit_count (byte ∷ bytes) ≡ 0
  point : fraction_length (byte ∷ bytes) ≡ 0
  mark : (byte == 101 || byte == 69) ≡ true

mark_is : (byte : ℕ) (bytes : List ℕ) → (byte ≡ 101) ⊎ (byte ≡ 69) → IsMark byte bytes
mark_is byte bytes (inl h) = record { digits = rw (h) refl; point = rw (h) refl; mark = rw (h) refl }
mark_is byte bytes (inr h) = record { digits = rw (h) refl; point = rw (h) refl; mark = rw (h) refl }

sign_least : (s : Sign) (digit : ℕ) (bytes : List ℕ) → is_ascii_digit digit ≡ true → sign_length (sign_text s ++ digit ∷ bytes) ≡ length (sign_text s)
sign_least Plus digit bytes e = refl
sign_least Minus digit bytes e = refl
sign_least NoSign digit bytes e =
    let plus : (digit == 43) ≡ false = grind (arith, nat_tests) in
    let minus : (digit == 45) ≡ false = grind (arith, nat_tests) in
    rw (plus, minus) refl

power_least_by : (sign digits n : ℕ) → 1 ≤ digits → digits ≤ 3 → digits ≤ n → suc (sign + digits) ≤ power_length sign n
power_least_by sign digits zero some few less = absurd (omega arith)
power_least_by sign digits (suc n) some few less = let e = three sign n in omega (arith, e)

marked_least : (mark : ℕ) (s : Sign) (digits back : List ℕ) → (mark ≡ 101) ⊎ (mark ≡ 69) → AllDigits digits → 1 ≤ length digits → length digits ≤ 3
    → length (mark ∷ (sign_text s ++ digits)) ≤ exponent_length (mark ∷ ((sign_text s ++ digits) ++ back))
marked_least mark s [] back marked alone some few = absurd (omega arith)
marked_least mark s (digit ∷ digits) back marked alone some few =
    let front = digit ∷ digits in
    let sign = length (sign_text s) in
    let bytes = (sign_text s ++ front) ++ back in
    let here : is_ascii_digit digit ≡ true = grind arith in
    let joined : bytes ≡ sign_text s ++ (front ++ back) = append_assoc (sign_text s) front back in
    let signed : sign_length bytes ≡ sign = ap sign_length joined ∙ sign_least s digit (digits ++ back) here in
    let behind : digit_count (drop sign bytes) ≡ length front + digit_count back =
    ap digit_count (behind_front bytes (sign_text s) (front ++ back) sign joined refl) ∙ digits_more front back alone in
    let read = exponent_by mark bytes sign (length front + digit_count back) (mark_is mark bytes marked).mark signed behind in
    let least = power_least_by sign (length front) (length front + digit_count back) some few (omega arith) in
    let size = length-append (sign_text s) front in
    omega (arith, read, least, size)

power_least : (power : Option PowerParts) (back : List ℕ) → IsPowerIfAny power → length (power_text power) ≤ exponent_length (power_text power ++ back)
power_least None back h = omega arith
power_least (Some p) back h = marked_least p.mark p.sign p.digits back h.marked h.digits.alone h.digits.at_least h.digits.at_most

at_least : (text : List ℕ) (whole fraction n : ℕ) → digit_count text ≡ whole → fraction_length (drop whole text) ≡ fraction → (1 ≤ whole) ⊎ (2 ≤ fraction)
    → n ≤ exponent_length (drop (whole + fraction) text) → whole + (fraction + n) ≤ number_length text
at_least text whole fraction n e f some h =
    let size : number_length text ≡ whole + (fraction + exponent_length (drop (whole + fraction) text)) =
    length_by text whole fraction e f ∙ if_some whole fraction (whole + (fraction + exponent_length (drop (whole + fraction) text))) some in
    omega (arith, size, h)

some_digits : (whole digits : List ℕ) (n : ℕ) → 1 ≤ length (whole ++ digits) → length digits ≤ n → (1 ≤ length whole) ⊎ (2 ≤ suc n)
some_digits [] digits n h few = inr (omega arith)
some_digits (digit ∷ whole) digits n h few = inl (omega arith)

parts_least : (whole : List ℕ) (behind : Option (List ℕ)) (power : Option PowerParts) (back : List ℕ) → AllDigits whole → AllDigits (digits_behind behind)
    → 1 ≤ length (whole ++ digits_behind behind) → IsPowerIfAny power
    → length (whole ++ (point_text behind ++ power_text power)) ≤ number_length (whole ++ (point_text behind ++ (power_text power ++ back)))
parts_least whole None None back alone digits some h =
    let text = whole ++ back in
    let n = length whole + digit_count back in
    let front = length-append whole [] in
    let least = at_least text n (fraction_length (drop n text)) 0 (digits_more whole back alone) refl (inl (omega (arith, front))) (omega arith) in
    omega (arith, front, least)
parts_least whole None (Some p) back alone digits some h =
    let rest = power_text (Some p) ++ back in
    let text = whole ++ rest in
    let mark = mark_is p.mark ((sign_text p.sign ++ p.digits) ++ back) h.marked in
    let count : digit_count text ≡ length whole = digits_more whole rest alone ∙ omega (arith, mark.digits) in
    let point : fraction_length (drop (length whole) text) ≡ 0 = ap fraction_length (past_front whole rest) ∙ mark.point in
    let front = length-append whole [] in
    let past = behind_front text whole rest (length whole + 0) refl (omega arith) in
    let power = power_least (Some p) back h in
    let size = length-append whole (power_text (Some p)) in
    let least = at_least text (length whole) 0 (length (power_text (Some p))) count point (inl (omega (arith, front)))
    (subst (λ xs. length (power_text (Some p)) ≤ exponent_length xs) (sym past) power) in
    omega (arith, size, least)
parts_least whole (Some ds) None back alone digits some h =
    let rest = 46 ∷ (ds ++ back) in
    let text = whole ++ rest in
    let more = digits_more ds back digits in
    let fraction = suc (length ds + digit_count back) in
    let count : digit_count text ≡ length whole = digits_more whole rest alone ∙ omega arith in
    let point : fraction_length (drop (length whole) text) ≡ fraction = ap fraction_length (past_front whole rest) ∙ omega (arith, more) in
    let size = parts_length whole (46 ∷ ds) [] in
    let least = at_least text (length whole) fraction 0 count point (some_digits whole ds (length ds + digit_count back) some (omega arith)) (omega arith) in
    omega (arith, size, least)
parts_least whole (Some ds) (Some p) back alone digits some h =
    let tail = power_text (Some p) ++ back in
    let rest = 46 ∷ (ds ++ tail) in
    let text = whole ++ rest in
    let mark = mark_is p.mark ((sign_text p.sign ++ p.digits) ++ back) h.marked in
    let more = digits_more ds tail digits in
    let fraction = suc (length ds) in
    let count : digit_count text ≡ length whole = digits_more whole rest alone ∙ omega arith in
    let point : fraction_length (drop (length whole) text) ≡ fraction = ap fraction_length (past_front whole rest) ∙ omega (arith, more, mark.digits) in
    let past = behind_front text (whole ++ 46 ∷ ds) tail (length whole + fraction) (sym (append_assoc whole (46 ∷ ds) tail)) (sym (length-append whole (46 ∷ ds))) in
    let power = power_least (Some p) back h in
    let size = parts_length whole (46 ∷ ds) (power_text (Some p)) in
    let least = at_least text (length whole) fraction (length (power_text (Some p))) count point (some_digits whole ds (length ds) some (omega arith))
    (subst (λ xs. length (power_text (Some p)) ≤ exponent_length xs) (sym past) power) in
    omega (arith, size, least)

-- a front that is a number, by its parts
record IsCutNumber (front back : List ℕ) (p : NumberParts) : Type 0 where
  front_is : front ≡ p.whole ++ (point_text p.behind ++ power_text p.power)
  text_is : front ++ back ≡ p.whole ++ (point_text p.behind ++ (power_text p.power ++ back))

cut_number : (front back : List ℕ) (h : IsUnsignedNumber front) → IsCutNumber front back h.parts
cut_number front back h =
    let p = h.parts in
    let is = h.written.joined ∙ ap (λ s. sign_text s ++ (p.whole ++ (point_text p.behind ++ power_text p.power))) h.unsigned in
    record { front_is = is; text_is = ap (λ xs. xs ++ back) is ∙ three_parts p.whole (point_text p.behind) (power_text p.power) back }

longest_by : (text front back : List ℕ) → text ≡ front ++ back → IsUnsignedNumber front → length front ≤ number_length text
longest_by text front back e h =
    let cut = cut_number front back h in
    let least = parts_least h.parts.whole h.parts.behind h.parts.power back h.written.whole h.written.behind h.written.some h.written.power in
    let there = ap number_length (e ∙ cut.text_is) in
    let size = ap length cut.front_is in
    omega (arith, least, there, size)

-- ---- tokens
sign_by : (a b c d e f g : Bool)
    → (if a then kinds.Plus else (if b then kinds.Minus else (if c then kinds.Star else (if d then kinds.Slash
    else (if e then kinds.Caret else (if f then kinds.Open else (if g then kinds.Close else kinds.Stray))))))) ≡ kinds.Number → ⊥
sign_by true b c d e f g h = cc
sign_by false true c d e f g h = cc
sign_by false false true d e f g h = cc
sign_by false false false true e f g h = cc
sign_by false false false false true f g h = cc
sign_by false false false false false true g h = cc
sign_by false false false false false false true h = cc
sign_by false false false false false false false h = cc

no_sign : (byte : ℕ) → sign_kind byte ≡ kinds.Number → ⊥
unfolding sign_kind
no_sign byte h = sign_by (byte == 43) (byte == 45) (byte == 42) (byte == 47) (byte == 94) (byte == 40) (byte == 41) h

token_by : (byte name n : ℕ) (t : Bool) → (if t then record { kind = kinds.Name; length = name } else number_or_sign byte n).kind ≡ kinds.Number
    → ((if t then record { kind = kinds.Name; length = name } else number_or_sign byte n).length ≡ n) × (0 < n)
token_by byte name n true h = absurd cc
token_by byte name zero false h = absurd (no_sign byte h)
token_by byte name (suc n) false h = (refl, omega arith)

token_is : (text : List ℕ) → (lexeme text).kind ≡ kinds.Number → ((lexeme text).length ≡ number_length text) × (0 < number_length text)
unfolding lexeme
token_is [] h = absurd cc
token_is (byte ∷ bytes) h = token_by byte (1 + prefix_len continues_name bytes) (number_length (byte ∷ bytes)) (begins_name byte) h

-- a number token is the longest number
pub longest_is : (text : List ℕ) → (lexeme text).kind ≡ kinds.Number → IsLongestNumber text (lexeme text).length
longest_is text h =
    let token = token_is text h in
    let front = number_is text token.1 in
    let longest : IsLongestNumber text (number_length text) = record { within = front.within; number = front.number; longest = longest_by text } in
    subst (IsLongestNumber text) (sym token.0) longest

-- and a text that begins with a number has a number token
kind_by : (byte : ℕ) (bytes : List ℕ) (n : ℕ) → begins_name byte ≡ false → number_length (byte ∷ bytes) ≡ n → 1 ≤ n → (lexeme (byte ∷ bytes)).kind ≡ kinds.Number
unfolding lexeme
kind_by byte bytes zero e f some = absurd (omega arith)
kind_by byte bytes (suc n) e f some = rw (e, f) refl

digit_no_name : (byte : ℕ) → is_ascii_digit byte ≡ true → begins_name byte ≡ false
digit_no_name byte e = grind (arith, nat_tests)

begins_number : (whole : List ℕ) (behind : Option (List ℕ)) (rest : List ℕ) → AllDigits whole → 1 ≤ length (whole ++ digits_behind behind)
    → 1 ≤ number_length (whole ++ (point_text behind ++ rest)) → (lexeme (whole ++ (point_text behind ++ rest))).kind ≡ kinds.Number
begins_number [] None rest alone some h = absurd (omega arith)
begins_number [] (Some ds) rest alone some h = kind_by 46 (ds ++ rest) (number_length (46 ∷ (ds ++ rest))) refl refl h
begins_number (digit ∷ whole) behind rest alone some h =
    let here : is_ascii_digit digit ≡ true = grind arith in
    let bytes = whole ++ (point_text behind ++ rest) in
    kind_by digit bytes (number_length (digit ∷ bytes)) (digit_no_name digit here) refl h

pub number_token : (front back : List ℕ) → IsUnsignedNumber front → (lexeme (front ++ back)).kind ≡ kinds.Number
number_token front back h =
    let cut = cut_number front back h in
    let p = h.parts in
    let least = parts_least p.whole p.behind p.power back h.written.whole h.written.behind h.written.some h.written.power in
    let size = parts_length p.whole (point_text p.behind) (power_text p.power) in
    let digits = length-append p.whole (digits_behind p.behind) in
    let shorter = behind_shorter p.behind in
    let some : 1 ≤ number_length (p.whole ++ (point_text p.behind ++ (power_text p.power ++ back))) = omega (arith, least, size, digits, shorter, h.written.some) in
    let found = begins_number p.whole p.behind (power_text p.power ++ back) h.written.whole h.written.some some in
    ap (λ xs. (lexeme xs).kind) cut.text_is ∙ found
  where
    behind_shorter : (behind : Option (List ℕ)) → length (digits_behind behind) ≤ length (point_text behind)
    behind_shorter None = omega arith
    behind_shorter (Some ds) = omega arith

-- the text of a number token is a number, so that it is read or too large
pub token_read : (text : List ℕ) → (lexeme text).kind ≡ kinds.Number → number_of (take (lexeme text).length text) ≡ Err BadNumber → ⊥
token_read text h e =
    let longest = longest_is text h in
    let cut = take (lexeme text).length text in
    ((number_grammar-no_number cut).0 e) longest.number.parts longest.number.written
