-- What a call of a device leaves: counts of faults, bytes of slots, bytes written.
use Rattle.std.specs.Prelude.{◌≡◌, ◌≢◌, ℕ, ◌+◌, ◌-◌, ◌^◌, ◌≤◌, min, Bool, true, false, List, ◌++◌, length, take, Some, None, ⊤}
use Rattle.std.specs.Prelude.{Option}

-- a count of faults went up, or is at its greatest value, 2^64 - 1
abbrev pub CountIncreased : ℕ → ℕ → Type 0
CountIncreased before now = min (before + 1) (2 ^ 64 - 1) ≤ now

-- each slot but this one has what it had
abbrev pub UnchangedExcept : {A : Type 0} → ℕ → (ℕ → A) → (ℕ → A) → Type 0
UnchangedExcept slot old new = (k : ℕ) → k ≢ slot → new k ≡ old k

-- what was written grew by a prefix of this piece, where the object reports what was written
abbrev pub AppendsPrefix : Option (List ℕ) → Option (List ℕ) → List ℕ → Type 0
AppendsPrefix None new piece = ⊤
AppendsPrefix (Some xs) None piece = ⊥
AppendsPrefix (Some xs) (Some ys) piece = ys ≡ xs ++ take (length ys - length xs) piece

-- a fault raises this slot's count; any other answer leaves the counts of all slots
abbrev pub FaultCounts : Bool → ℕ → (ℕ → ℕ) → (ℕ → ℕ) → Type 0
FaultCounts true slot old new = CountIncreased (old slot) (new slot)
FaultCounts false slot old new = (k : ℕ) → new k ≡ old k

-- no byte was taken from any slot, and no call failed
abbrev pub SlotsUnchanged : (ℕ → Option (List ℕ)) → (ℕ → Option (List ℕ)) → (ℕ → ℕ) → (ℕ → ℕ)
    → Type 0
SlotsUnchanged left_was left_now faults_was faults_now =
    (k : ℕ) → (left_now k ≡ left_was k) × (faults_now k ≡ faults_was k)

-- what a call on one slot leaves: open slots stay open, the bytes under each name stay, the other
-- slots keep their bytes and their counts of faults, and no count falls; this slot's count
-- increases where the call fails, and where it does not, no count changes
pub record IsCallOn (slot : ℕ) (fails : Bool) (open_was open_now : ℕ → Type 0)
    (held_was held_now : List ℕ → Option (List ℕ)) (left_was left_now : ℕ → Option (List ℕ))
    (faults_was faults_now : ℕ → ℕ) : Type 0 where
  pub stays_open : (k : ℕ) → open_was k → open_now k
  pub names : (name : List ℕ) → held_now name ≡ held_was name
  pub other_slots : UnchangedExcept slot left_was left_now
  pub counts : FaultCounts fails slot faults_was faults_now
  pub other_counts : UnchangedExcept slot faults_was faults_now
  pub later : (k : ℕ) → faults_was k ≤ faults_now k
