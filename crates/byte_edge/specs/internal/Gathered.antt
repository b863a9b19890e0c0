-- What the taking of one line leaves, by its answer.
use Rattle.std.specs.Prelude.{◌≡◌, ℕ, Bool, true, false, List, [], Option}
use Rattle.std.specs.Io.KnownBytes.{Consumes, IsAtEnd, prepend_known}
use Rattle.byte_edge.specs.Lines.{newlines, IsWholeLine}
use Rattle.byte_edge.specs.internal.LineParts.{LinePrefix, IsTaken, IsOver}
use Rattle.byte_edge.specs.declared.gather.Gathered.{Gathered}
use Rattle.byte_edge.specs.declared.gather.Gathered.TheVariants.{Line, End, PastBudget, Fault}

-- a line was taken whole
pub record GathersLine (line : LinePrefix) (old_room new_room : ℕ)
    (before after : Option (List ℕ)) : Type 0 where
  pub raw : List ℕ
  pub whole : IsWholeLine raw
  pub taken : IsTaken raw line old_room new_room before after

-- all that was left was taken, and has no LF
pub record GathersRest (line : LinePrefix) (old_room new_room : ℕ) (before : Option (List ℕ))
    (held : List ℕ) (left : Option (List ℕ)) : Type 0 where
  pub raw : List ℕ
  pub none : newlines raw ≡ 0
  pub taken : IsTaken raw line old_room new_room before (prepend_known held left)
  pub empty : held ≡ []
  pub at_end : IsAtEnd left

-- more of one line was taken than the budget has left
pub record GathersOver (room : ℕ) (before after : Option (List ℕ)) : Type 0 where
  pub raw : List ℕ
  pub over : IsOver raw room before after

-- a read failed; what was taken before has no LF
pub record GathersPart (before : Option (List ℕ)) (held : List ℕ) (left : Option (List ℕ))
    : Type 0 where
  pub raw : List ℕ
  pub none : newlines raw ≡ 0
  pub consumed : Consumes before (prepend_known held left) raw
  pub empty : held ≡ []

-- what each answer leaves: of the line, the budget, the bytes held and the slot
abbrev pub Gathers : Gathered → LinePrefix → ℕ → ℕ → Option (List ℕ) → List ℕ
    → Option (List ℕ) → Type 0
Gathers Line line old_room new_room before held left =
    GathersLine line old_room new_room before (prepend_known held left)
Gathers End line old_room new_room before held left =
    GathersRest line old_room new_room before held left
Gathers PastBudget line old_room new_room before held left =
    GathersOver old_room before (prepend_known held left)
Gathers Fault line old_room new_room before held left = GathersPart before held left

-- the answer is a fault
abbrev pub is_fault : Gathered → Bool
is_fault Fault = true
is_fault Line = false
is_fault End = false
is_fault PastBudget = false
