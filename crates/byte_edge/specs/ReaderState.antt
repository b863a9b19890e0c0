-- What a line reader keeps, and what each of its answers says of the bytes still to come.
use Rattle.std.specs.Prelude.{◌≡◌, ℕ, ◌+◌, ◌-◌, ◌<◌, ◌||◌, Bool, true, false, IsTrue, if◌then◌else◌, List, [], ◌∷◌, ◌++◌, length, take, drop, Some, None, Option, ⊤}
use Rattle.std.specs.Io.KnownBytes.{IsAtEnd}
use Rattle.byte_edge.specs.Lines.{raw_lines, newlines, has_line_feed, LineEvent, PastBudget, line_events}

-- what a reader keeps between calls
pub record ReaderState : Type 0 where
  pub slot : ℕ
  pub limit : ℕ
  pub room : ℕ
  pub held : List ℕ
  pub line : List ℕ
  pub ended : Bool
  pub spent : Bool

-- the bytes still to come: those taken and not yet given, then those left in the slot, unless a
-- read gave 0 before
abbrev pub ahead : ReaderState → List ℕ → List ℕ
ahead reader left = reader.held ++ (if reader.ended then [] else left)

-- what the reader reports, in order, of all that is still to come
abbrev pub to_come : ReaderState → List ℕ → List LineEvent
to_come reader left = line_events reader.limit reader.room (raw_lines (ahead reader left))

-- the next answer takes no read: an LF is among the bytes held, or a read gave 0 before
abbrev pub has_line : ReaderState → Bool
has_line reader = reader.ended || has_line_feed reader.held

-- a fact of the bytes left in a slot before and after a call; nothing where the object does not
-- report them
abbrev pub WhenKnown : Option (List ℕ) → Option (List ℕ) → (List ℕ → List ℕ → Type 0) → Type 0
WhenKnown None new P = ⊤
WhenKnown (Some before) None P = ⊥
WhenKnown (Some before) (Some after) P = P before after

-- a reader that has ended knows that its slot has nothing left
abbrev pub KnowsEnd : ReaderState → Option (List ℕ) → Type 0
KnowsEnd reader left = IsTrue reader.ended → IsAtEnd left

-- the first line of those to come was reported, and taken from them
pub record ReportsFirst (line : LineEvent) (old new : ReaderState) (before after : List ℕ)
    : Type 0 where
  pub events : to_come old before ≡ line ∷ to_come new after
  pub split : ahead old before ≡ take (old.room - new.room) (ahead old before) ++ ahead new after
  pub raw : raw_lines (ahead old before)
      ≡ take (old.room - new.room) (ahead old before) ∷ raw_lines (ahead new after)
  pub paid : length (take (old.room - new.room) (ahead old before)) + new.room ≡ old.room
  pub counted : newlines (ahead old before)
      ≡ newlines (ahead new after) + (if new.ended then 0 else 1)

-- an answer that reported a line
pub record ReportsLine (line : LineEvent) (old new : ReaderState) (was left : Option (List ℕ))
    : Type 0 where
  pub slot : new.slot ≡ old.slot
  pub limit : new.limit ≡ old.limit
  pub going : new.spent ≡ false
  pub awake : old.ended ≡ false
  pub room : new.room < old.room
  pub at_end : KnowsEnd old was → KnowsEnd new left
  pub known : WhenKnown was left (ReportsFirst line old new)

-- the answer that no line is left
pub record ReportsEnd (old new : ReaderState) (was left : Option (List ℕ)) : Type 0 where
  pub slot : new.slot ≡ old.slot
  pub limit : new.limit ≡ old.limit
  pub going : new.spent ≡ false
  pub room : new.room ≡ old.room
  pub held : new.held ≡ []
  pub ended : new.ended ≡ true
  pub at_end : KnowsEnd old was → IsAtEnd left
  pub known : WhenKnown was left (λ before after. ahead old before ≡ [])

-- the answer that a line reaches past the budget
pub record ReportsPastBudget (old new : ReaderState) (was left : Option (List ℕ)) : Type 0 where
  pub slot : new.slot ≡ old.slot
  pub limit : new.limit ≡ old.limit
  pub spent : new.spent ≡ true
  pub awake : old.ended ≡ false
  pub known : WhenKnown was left (λ before after. to_come old before ≡ PastBudget ∷ [])

-- what is left are the last of these bytes, and the bytes before them have no LF
pub record IsRestOfLine (all rest : List ℕ) : Type 0 where
  pub last : rest ≡ drop (length all - length rest) all
  pub counted : newlines all ≡ newlines rest

-- the answer that a read failed: every whole line among the bytes taken was given before
pub record ReportsFault (old new : ReaderState) (was left : Option (List ℕ)) : Type 0 where
  pub slot : new.slot ≡ old.slot
  pub limit : new.limit ≡ old.limit
  pub spent : new.spent ≡ true
  pub held : new.held ≡ []
  pub awake : old.ended ≡ false
  pub ended : new.ended ≡ false
  pub known : WhenKnown was left (λ before after. IsRestOfLine (ahead old before) after)
