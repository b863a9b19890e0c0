-- What the crates above may use in their lemmas, and all that they may. Each term proves the clause of src/laws.rt
-- that its name gives, law and clause, and the answers of those laws are these terms. The terms `known_bytes-..` hold
-- of every statement P about the bytes left in a slot; they have no law, since no clause can speak of all statements.
use Rattle.std.proofs.Common.{ℕ, List, Option, IfSome}
use Rattle.byte_edge.specs.ReaderState.{WhenKnown}
use Rattle.byte_edge.proofs.Chain.{WhenKnown-then, WhenKnown-map, WhenKnown-before}
pub use Rattle.byte_edge.proofs.AllLines.{concat-raw_lines as lines_join-joined, AreLines-raw_lines as lines_join-cut}
pub use Rattle.byte_edge.proofs.SlotCalls.{no_call as calls_on_slot-none, one_more_call as calls_on_slot-then}
pub use Rattle.byte_edge.proofs.Writes.{Appends-nothing as written_bytes-nothing, Appends-then as written_bytes-then, Appends-same as written_bytes-same, AppendsPrefix-of as written_bytes-prefix, AppendsPrefix-after as written_bytes-prefix_after}
pub use Rattle.byte_edge.proofs.Chain.{WhenKnown-start as known_bytes-start, WhenKnown-at as known_bytes-at_slot, KnowsEnd-at as known_end-at_slot}

pub known_bytes-then : (was mid now : Option (List ℕ)) (P Q R : List ℕ → List ℕ → Type 0)
    → WhenKnown was mid P → WhenKnown mid now Q
    → ((before between after : List ℕ) → P before between → Q between after → R before after) → WhenKnown was now R
known_bytes-then was mid now P Q R first second both = WhenKnown-then was mid now P Q R both first second

pub known_bytes-map : (was now : Option (List ℕ)) (P Q : List ℕ → List ℕ → Type 0)
    → WhenKnown was now P → ((before after : List ℕ) → P before after → Q before after) → WhenKnown was now Q
known_bytes-map was now P Q known weaken = WhenKnown-map was now P Q weaken known

pub known_bytes-before : (was now : Option (List ℕ)) (P : List ℕ → List ℕ → Type 0) (Q : List ℕ → Type 0)
    → WhenKnown was now P → ((before after : List ℕ) → P before after → Q before) → IfSome was Q
known_bytes-before was now P Q known weaken = WhenKnown-before was now P Q weaken known
