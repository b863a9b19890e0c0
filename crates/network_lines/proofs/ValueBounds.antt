-- What values of a kind are.
use Rattle.std.proofs.Common.{◌≡◌, ℕ, Bool, true, false, cond, List, Option, None, Some, refl, subst}
use Rattle.std.specs.Prelude.{IfOk, ok_or, option_map}
use Rattle.exact_fraction.specs.Number.{Rational, zero, one, whole, den}
use Rattle.exact_fraction.specs.Order.{◌≤ℚ◌, less}
use Rattle.exact_fraction.proofs.PublicLaws.{tests-not_less}
use Rattle.key_words.specs.Words.{status_word, status_setting}
use Rattle.key_words.specs.declared.status.StatusWord.{StatusWord}
use Rattle.key_words.specs.declared.status.StatusWord.TheVariants.{On, Open, Off, Closed}
use Rattle.num_text.specs.Fields.{◌>>=◌}
use Rattle.num_text.specs.Numbers.{number_in}
use Rattle.num_text.specs.Times.{time_of, hours_in_digits, IsReadTime, IsReadHours}
use Rattle.num_text.proofs.PublicLaws.{readings-time, readings-hours}
use Rattle.rule_types.specs.WellFormed.{IsTimeValue, IsRate}
use Rattle.control_lines.specs.Faults.{FaultText}
use Rattle.network_lines.specs.Values.{value_read, if_not_negative}
use Rattle.network_lines.specs.declared.value.ValueKind.TheVariants.{Status, Time, Setting, TravelTime}

-- a value that is read is one that its item writes
ok_or_some : {A : Type 0} (P : A → Type 0) (found : Option A) (fault : FaultText)
    → ((value : A) → found ≡ Some value → P value) → IfOk (ok_or found fault) P
ok_or_some P (Some value) fault h = h value refl
ok_or_some P None fault h = tt

pub at_most_one : one ≤ℚ one
unfolding less whole den
at_most_one = (tests-not_less one one).0 refl

pub zero_at_most_zero : zero ≤ℚ zero
unfolding less whole den
zero_at_most_zero = (tests-not_less zero zero).0 refl

pub zero_at_most_one : zero ≤ℚ one
unfolding less whole den
zero_at_most_one = (tests-not_less one zero).0 refl

time_is : (q : Rational) → IsReadTime q → IsTimeValue q
time_is q h = record { least = h.least; most = h.most; exact = h.exact }

rate_is : (q : Rational) → IsReadHours q → IsRate q
rate_is q h = record { least = h.least; most = h.most; exact = record { divides = h.multiple } }

pub time : (item : List ℕ) → IfOk (value_read Time item) IsTimeValue
unfolding value_read
time item =
    ok_or_some IsTimeValue (time_of item) _ (λ q e. time_is q (readings-time item q e))

pub travel_time : (item : List ℕ) → IfOk (value_read TravelTime item) IsRate
unfolding value_read
travel_time item =
    ok_or_some IsRate (hours_in_digits item) _ (λ q e. rate_is q (readings-hours item q e))

status_least : (word : Option StatusWord) (q : Rational)
    → option_map status_setting word ≡ Some q → zero ≤ℚ q
status_least (Some On) q e = let same : one ≡ q = cc in subst (λ p. zero ≤ℚ p) same zero_at_most_one
status_least (Some Open) q e = let same : one ≡ q = cc in subst (λ p. zero ≤ℚ p) same zero_at_most_one
status_least (Some Off) q e = let same : zero ≡ q = cc in subst (λ p. zero ≤ℚ p) same zero_at_most_zero
status_least (Some Closed) q e = let same : zero ≡ q = cc in subst (λ p. zero ≤ℚ p) same zero_at_most_zero
status_least None q e = cc

pub status : (item : List ℕ) → IfOk (value_read Status item) (λ q. zero ≤ℚ q)
unfolding value_read
status item =
    ok_or_some (λ q. zero ≤ℚ q) (option_map status_setting (status_word item)) _
    (status_least (status_word item))

not_negative : (b : Bool) (p q : Rational) → less p zero ≡ b → cond b None (Some p) ≡ Some q → zero ≤ℚ q
not_negative true p q e h = cc
not_negative false p q e h =
    let same : p ≡ q = cc in subst (λ r. zero ≤ℚ r) same ((tests-not_less p zero).0 e)

setting_least : (found : Option Rational) (q : Rational)
    → (found >>= λ p. if_not_negative p) ≡ Some q → zero ≤ℚ q
setting_least (Some p) q h = not_negative (less p zero) p q refl h
setting_least None q h = cc

pub setting : (item : List ℕ) → IfOk (value_read Setting item) (λ q. zero ≤ℚ q)
unfolding value_read
setting item =
    ok_or_some (λ q. zero ≤ℚ q) (number_in item >>= λ q. if_not_negative q) _
    (setting_least (number_in item))
