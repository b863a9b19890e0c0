-- The fault that is reported of two on one line is the lower of the refusals of the line.
use Rattle.std.proofs.Common.{◌≡◌, ℕ, Bool, true, false, refl, sym, ap, arith}
use Rattle.std.specs.Prelude.{◌==◌, ◌||◌, ◌&&◌, nat_lt, if◌then◌else◌, Some, Ok, Err}
use Rattle.std.proofs.lemmas.Bool.Decides.{nat_tests}
use Rattle.rule_types.specs.Causes.{cause_number}
use Rattle.rule_types.specs.Refusals.{goes_before, lower, earlier}
use Rattle.control_lines.specs.Faults.{FaultText, Checked, sooner, both, refusal_on, refusal_at}

-- on one line the causes decide
on_one_line : (n c d : ℕ) → (nat_lt n n || (n == n && nat_lt c d)) ≡ nat_lt c d
on_one_line n c d = grind (arith, nat_tests)

pub sooner_lower : (line : ℕ) (a b : FaultText)
    → lower (refusal_on line a) (refusal_on line b) ≡ refusal_on line (sooner a b)
unfolding lower goes_before sooner
sooner_lower line a b =
    by_test (nat_lt (cause_number b.cause) (cause_number a.cause))
    (nat_lt line line || (line == line && nat_lt (cause_number b.cause) (cause_number a.cause)))
    (on_one_line line (cause_number b.cause) (cause_number a.cause)) where
      by_test : (s t : Bool) → t ≡ s
          → (if t then refusal_on line b else refusal_on line a)
          ≡ refusal_on line (if s then b else a)
      by_test true t h = rw h
      by_test false t h = rw h

pub both_earlier : {A B : Type 0} (line : ℕ) (a : Checked A) (b : Checked B)
    → refusal_at line (both a b) ≡ earlier (refusal_at line a) (refusal_at line b)
unfolding both earlier
both_earlier line (Ok a) (Ok b) = refl
both_earlier line (Ok a) (Err fault) = refl
both_earlier line (Err fault) (Ok b) = refl
both_earlier line (Err one) (Err other) = ap Some (sym (sooner_lower line one other))
