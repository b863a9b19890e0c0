-- Numbers, moments and rules are read back from their words.
use Rattle.std.proofs.Common.{◌≡◌, ℕ, ◌+◌, ◌-◌, ◌^◌, ◌<◌, true, false, cond, ◌||◌, ◌==◌, List, Some, None, refl, ap, subst, ◌∙◌, arith, ℤ}
use Rattle.std.specs.Prelude.{IsTrue, nat_lt, int_le, unsigned_abs, decimal}
use Rattle.std.specs.Int.{IsGcd}
use Rattle.std.specs.Str.{bytes_eq}
use Rattle.std.proofs.lemmas.Bool.{and_parts}
use Rattle.std.proofs.lemmas.Bool.Decides.{nat_tests}
use Rattle.std.proofs.lemmas.Int.{ints}
use Rattle.std.proofs.lemmas.Slice.Eq.{bytes_eq-Decides}
use Rattle.exact_fraction.specs.Moments.{IsMoment, first_second, last_second}
use Rattle.exact_fraction.specs.Number.{Rational, den, fits, gcd, IsNumber}
use Rattle.exact_fraction.proofs.PublicLaws.{lowest_terms-greatest}
use Rattle.num_text.specs.Fields.{◌>>=◌}
use Rattle.num_text.specs.Values.{written_value}
use Rattle.num_text.specs.Written.{written_moment}
use Rattle.num_text.proofs.PublicLaws.{round_trips-value, round_trips-moment, counts-back}
use Rattle.report_lines.specs.Words.{value_of, value_if, written_moment_of, moment_if, rule_place, place_if}
use Rattle.report_text.specs.Readable.{is_number, is_moment}

pub same_text : (text : List ℕ) → bytes_eq text text ≡ true
same_text text = (bytes_eq-Decides text text).1 refl

-- ---- numbers
same_number : (a b : ℕ) → (a == b) ≡ true → a ≡ b
same_number a b e = grind (arith, nat_tests)

pub number_held : (q : Rational) → IsTrue (is_number q) → IsNumber q
number_held q h =
    let parts = and_parts (gcd (unsigned_abs q.num) (den q) == 1) (fits q) h in
    record {
      lowest = record {
        coprime = subst (IsGcd (unsigned_abs q.num) (den q)) (same_number (gcd (unsigned_abs q.num) (den q)) 1 parts.0)
            (lowest_terms-greatest (unsigned_abs q.num) (den q));
      };
      fitting = parts.1;
    }

pub value_back : (q : Rational) → IsNumber q → value_of (written_value q) ≡ Some q
unfolding value_of
value_back q h =
    ap (λ o. o >>= value_if (written_value q)) (round_trips-value q h)
    ∙ ap (λ b. cond b (Some q) None) (same_text (written_value q))

-- ---- moments
pub moment_held : (second : ℤ) → IsTrue (is_moment second) → IsMoment second
moment_held second h =
    let parts = and_parts (int_le first_second second) (int_le second last_second) h in
    record { early = omega (arith, ints, parts.0); late = omega (arith, ints, parts.1) }

pub moment_back : (second : ℤ) → IsTrue (is_moment second) → written_moment_of (written_moment second) ≡ Some second
unfolding written_moment_of
moment_back second h =
    ap (λ o. o >>= moment_if (written_moment second)) (round_trips-moment second (moment_held second h))
    ∙ ap (λ b. cond b (Some second) None) (same_text (written_moment second))

-- ---- rules
not_zero : (place : ℕ) → ((place + 1) == 0) ≡ false
not_zero place = grind (arith, nat_tests)

not_past : (count place : ℕ) → place < count → nat_lt count (place + 1) ≡ false
not_past count place h = grind (arith, nat_tests)

place_is : (count place : ℕ) → place < count → place_if count (place + 1) ≡ Some place
place_is count place h =
    let back : place + 1 - 1 ≡ place = omega arith in
    ap (λ b. cond (b || nat_lt count (place + 1)) None (Some (place + 1 - 1))) (not_zero place)
    ∙ ap (λ b. cond b None (Some (place + 1 - 1))) (not_past count place h)
    ∙ ap (λ n. Some n) back

pub rule_back : (count place : ℕ) → count < 2 ^ 64 → place < count → rule_place count (decimal (place + 1)) ≡ Some place
unfolding rule_place
rule_back count place few h =
    let small : place + 1 < 2 ^ 64 = omega arith in
    ap (λ o. o >>= place_if count) (counts-back (place + 1) small)
    ∙ place_is count place h
