-- The lines that were read, and what is reported of all lines of a file.
use Rattle.std.proofs.Common.{◌≡◌, ℕ, ◌+◌, ◌-◌, ◌<◌, ◌≤◌, leb, Bool, true, false, cond}
use Rattle.std.proofs.Common.{List, [], ◌∷◌, ◌++◌, map, length, Some, None, Option, refl, ◌∙◌, ap}
use Rattle.std.proofs.Common.{arith, length-append}
use Rattle.std.proofs.lemmas.Bool.{leb-true, leb-false}
use Rattle.std.specs.List.{concat}
use Rattle.byte_edge.specs.Lines.{line_text, capped, LineEvent, Whole, OverLong, PastBudget}
use Rattle.byte_edge.specs.Lines.{line_events, line_event_of}
use Rattle.inp_text.specs.Sections.{Line}

-- what was reported of a line that was read
abbrev pub event_of_text : Line → LineEvent
event_of_text (Some text) = Whole text
event_of_text None = OverLong

event-capped : (limit : ℕ) (raw : List ℕ) (text : Line) (b : Bool)
    → leb (length (line_text raw)) limit ≡ b
    → cond b (Whole (line_text raw)) OverLong ≡ event_of_text text
    → text ≡ cond b (Some (line_text raw)) None
event-capped limit raw (Some text) true is event = cc
event-capped limit raw None true is event = cc
event-capped limit raw (Some text) false is event = cc
event-capped limit raw None false is event = refl

-- no line within the budget is reported as past it
not_past : (limit : ℕ) (raw : List ℕ) (b : Bool) → leb (length (line_text raw)) limit ≡ b
    → cond b (Whole (line_text raw)) OverLong ≡ PastBudget → ⊥
not_past limit raw true is past = cc
not_past limit raw false is past = cc

event_not_past : (text : Line) → PastBudget ≡ event_of_text text → ⊥
event_not_past (Some text) past = cc
event_not_past None past = cc

-- all that was reported are lines that were read: then they are all lines, and within the budget
pub line_events-all : (limit room : ℕ) (raws : List (List ℕ)) (texts : List Line)
    → line_events limit room raws ≡ map event_of_text texts
    → (length (concat raws) ≤ room) × (texts ≡ map (capped limit) (map line_text raws))
line_events-all limit room [] [] all = (omega arith, refl)
line_events-all limit room [] (text ∷ texts) all = cc
line_events-all limit room (raw ∷ rest) [] all = at (leb (length raw) room) all
  where
    at : (b : Bool)
        → cond b (line_event_of limit raw ∷ line_events limit (room - length raw) rest)
        (PastBudget ∷ []) ≡ []
        → (length (concat (raw ∷ rest)) ≤ room)
        × ([] ≡ map (capped limit) (map line_text (raw ∷ rest)))
    at true none = cc
    at false none = cc
line_events-all limit room (raw ∷ rest) (text ∷ texts) all =
    at (leb (length raw) room) refl all (line_events-all limit (room - length raw) rest texts)
  where
    at : (b : Bool) → leb (length raw) room ≡ b
        → cond b (line_event_of limit raw ∷ line_events limit (room - length raw) rest)
        (PastBudget ∷ []) ≡ event_of_text text ∷ map event_of_text texts
        → (line_events limit (room - length raw) rest ≡ map event_of_text texts
        → (length (concat rest) ≤ room - length raw)
        × (texts ≡ map (capped limit) (map line_text rest)))
        → (length (raw ++ concat rest) ≤ room)
        × (text ∷ texts ≡ map (capped limit) (map line_text (raw ∷ rest)))
    at true is all more =
        let head : line_event_of limit raw ≡ event_of_text text = cc in
        let others : line_events limit (room - length raw) rest ≡ map event_of_text texts = cc in
        let below = more others in
        let within = leb-true _ _ is in
        let text_is : text ≡ capped limit (line_text raw) =
        event-capped limit raw text (leb (length (line_text raw)) limit) refl head in (
          omega (arith, length-append raw (concat rest), below.0),
          ap (λ t. t ∷ texts) text_is ∙ ap (λ l. capped limit (line_text raw) ∷ l) below.1,
        )
    at false is all more =
        let head : PastBudget ≡ event_of_text text = cc in
        absurd (event_not_past text head)

-- the lines that were read are followed by one past the budget: then there are more bytes
pub line_events-past_all : (limit room : ℕ) (raws : List (List ℕ)) (texts : List Line)
    → line_events limit room raws ≡ map event_of_text texts ++ PastBudget ∷ []
    → room < length (concat raws)
line_events-past_all limit room [] [] all = cc
line_events-past_all limit room [] (text ∷ texts) all = cc
line_events-past_all limit room (raw ∷ rest) [] all = at (leb (length raw) room) refl all
  where
    at : (b : Bool) → leb (length raw) room ≡ b
        → cond b (line_event_of limit raw ∷ line_events limit (room - length raw) rest)
        (PastBudget ∷ []) ≡ PastBudget ∷ []
        → room < length (raw ++ concat rest)
    at true is all =
        let head : line_event_of limit raw ≡ PastBudget = cc in
        absurd (not_past limit raw (leb (length (line_text raw)) limit) refl head)
    at false is all = omega (arith, leb-false _ _ is, length-append raw (concat rest))
line_events-past_all limit room (raw ∷ rest) (text ∷ texts) all =
    at (leb (length raw) room) refl all
    (line_events-past_all limit (room - length raw) rest texts)
  where
    at : (b : Bool) → leb (length raw) room ≡ b
        → cond b (line_event_of limit raw ∷ line_events limit (room - length raw) rest)
        (PastBudget ∷ []) ≡ event_of_text text ∷ (map event_of_text texts ++ PastBudget ∷ [])
        → (line_events limit (room - length raw) rest
        ≡ map event_of_text texts ++ PastBudget ∷ [] → room - length raw < length (concat rest))
        → room < length (raw ++ concat rest)
    at true is all more =
        let others : line_events limit (room - length raw) rest
        ≡ map event_of_text texts ++ PastBudget ∷ [] = cc in
        omega (arith, leb-true _ _ is, length-append raw (concat rest), more others)
    at false is all more =
        let head : PastBudget ≡ event_of_text text = cc in
        absurd (event_not_past text head)
