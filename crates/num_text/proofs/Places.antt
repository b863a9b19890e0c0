-- Written digits.
use Rattle.std.proofs.Common.{◌≡◌, ℕ, zero, suc, ◌+◌, ◌*◌, ◌/◌, ◌%◌, ◌^◌, ◌<◌, true, List, [], ◌∷◌, ◌++◌, length, refl, arith, length-append, pow-suc}
use Rattle.std.proofs.lemmas.Bool.Decides.{nat_tests}
use Rattle.std.proofs.lemmas.Int.Digits.{digits_value_push}
use Rattle.std.specs.List.{list_all}
use Rattle.std.specs.Char.{is_ascii_digit}
use Rattle.std.specs.Str.Parse.{digits_value}
use Rattle.num_text.specs.Written.{places}
use Rattle.num_text.proofs.Digits.{digit_value-ascii}

pub length-places : (count number : ℕ) → length (places count number) ≡ count
unfolding places
length-places zero number = refl
length-places (suc count) number =
    omega (arith, length-append (places count (number / 10)) ((48 + number % 10) ∷ []), length-places count (number / 10))

-- a written digit is one
digit-ascii : (number : ℕ) → is_ascii_digit (48 + number % 10) ≡ true
digit-ascii number = grind (arith, nat_tests)

list_all-push : (digits : List ℕ) (byte : ℕ) → list_all is_ascii_digit digits ≡ true → is_ascii_digit byte ≡ true → list_all is_ascii_digit (digits ++ byte ∷ []) ≡ true
list_all-push [] byte e d = rw d refl
list_all-push (digit ∷ digits) byte e d =
    let here : is_ascii_digit digit ≡ true = grind arith in
    let rest : list_all is_ascii_digit digits ≡ true = grind arith in
    rw here (list_all-push digits byte rest d)

pub places-digits : (count number : ℕ) → list_all is_ascii_digit (places count number) ≡ true
unfolding places
places-digits zero number = refl
places-digits (suc count) number =
    list_all-push (places count (number / 10)) (48 + number % 10) (places-digits count (number / 10)) (digit-ascii number)

-- digits write the number that they were written for
pub digits_value-places : (count number : ℕ) → number < 10 ^ count → digits_value 10 (places count number) ≡ number
unfolding places
digits_value-places zero number small = omega arith
digits_value-places (suc count) number small =
    let power : 10 ^ suc count ≡ 10 ^ count * 10 = omega (arith, pow-suc 10 count) in
    let front = digits_value-places count (number / 10) (omega arith) in
    let last = digit_value-ascii (48 + number % 10) (digit-ascii number) in
    let push = digits_value_push 10 (places count (number / 10)) (48 + number % 10) in
    omega arith
