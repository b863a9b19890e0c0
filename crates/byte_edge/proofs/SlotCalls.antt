-- Several calls on one slot.
use Rattle.std.proofs.Common.{◌≡◌, ℕ, Bool, true, false, List, Option, refl, ◌∙◌, arith, subst}
use Rattle.byte_edge.specs.Devices.{CountIncreased, FaultCounts, IsCallOn}

-- before any call
pub no_call : {is_open : ℕ → Type 0} {held : List ℕ → Option (List ℕ)} {left : ℕ → Option (List ℕ)} {faults : ℕ → ℕ}
    → (slot : ℕ) → IsCallOn slot false is_open is_open held held left left faults faults
no_call slot = record {
  stays_open = λ k is. is;
  names = λ name. refl;
  other_slots = λ k other. refl;
  counts = λ k. refl;
  other_counts = λ k other. refl;
  later = λ k. omega arith;
}

-- the count of the slot, where the first call did not fail
counts_then : (slot : ℕ) (fails : Bool) (a b c : ℕ → ℕ) → ((k : ℕ) → b k ≡ a k) → FaultCounts fails slot b c → FaultCounts fails slot a c
counts_then slot true a b c first then = let P : ℕ → Type 0 = λ n. CountIncreased n (c slot) in subst P (first slot) then
counts_then slot false a b c first then = λ k. then k ∙ first k

-- a call that did not fail, and one more
pub one_more_call : {is_open0 is_open1 is_open2 : ℕ → Type 0} {held0 held1 held2 : List ℕ → Option (List ℕ)}
    {left0 left1 left2 : ℕ → Option (List ℕ)} {faults0 faults1 faults2 : ℕ → ℕ}
    → (slot : ℕ) (fails : Bool)
    → IsCallOn slot false is_open0 is_open1 held0 held1 left0 left1 faults0 faults1
    → IsCallOn slot fails is_open1 is_open2 held1 held2 left1 left2 faults1 faults2
    → IsCallOn slot fails is_open0 is_open2 held0 held2 left0 left2 faults0 faults2
one_more_call {faults0 = faults0} {faults1 = faults1} {faults2 = faults2} slot fails first then = record {
  stays_open = λ k is. then.stays_open k (first.stays_open k is);
  names = λ name. then.names name ∙ first.names name;
  other_slots = λ k other. then.other_slots k other ∙ first.other_slots k other;
  counts = counts_then slot fails faults0 faults1 faults2 first.counts then.counts;
  other_counts = λ k other. then.other_counts k other ∙ first.other_counts k other;
  later = λ k. omega (arith, first.later k, then.later k);
}
