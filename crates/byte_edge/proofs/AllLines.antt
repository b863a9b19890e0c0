-- What is reported of all lines of a slot.
use Rattle.std.proofs.Common.{◌≡◌, ℕ, suc, ◌+◌, ◌-◌, ◌<◌, ◌≤◌, ◌==◌, leb, Bool, true, false, cond, List, [], ◌∷◌, ◌++◌, map, length, take, inl, inr, Some, None, IfSome, Option, refl, sym, ◌∙◌, ap, subst, arith, length-append, append_assoc, append-nil}
use Rattle.std.proofs.lemmas.List.{map-append}
use Rattle.std.specs.List.{concat}
use Rattle.std.proofs.lemmas.Bool.{leb-true, leb-false, le-leb, eqb-true}
use Rattle.byte_edge.specs.Lines.{IsWholeLine, AreLines, raw_lines, onto_first, newlines, line_text, lines, capped, LineEvent, Whole, OverLong, PastBudget, line_events, line_event_of}
use Rattle.byte_edge.specs.ReaderState.{ReaderState, ahead, to_come, WhenKnown, ReportsFirst}
use Rattle.byte_edge.proofs.Chain.{WhenKnown-then, WhenKnown-before}

-- what was reported of a line that was read
abbrev pub event_of_text : Option (List ℕ) → LineEvent
event_of_text (Some text) = Whole text
event_of_text None = OverLong

-- one more line was read
pub line_events-more : (a b c : Option (List ℕ)) (limit budget : ℕ) (texts more : List (Option (List ℕ))) (text : Option (List ℕ)) (line : LineEvent) (old new : ReaderState)
    → more ≡ texts ++ text ∷ [] → event_of_text text ≡ line
    → WhenKnown a b (λ before after. line_events limit budget (raw_lines before) ≡ map event_of_text texts ++ to_come old after)
    → WhenKnown b c (ReportsFirst line old new)
    → WhenKnown a c (λ before after. line_events limit budget (raw_lines before) ≡ map event_of_text more ++ to_come new after)
line_events-more a b c limit budget texts more text line old new more_is line_is so_far next =
    WhenKnown-then a b c _ (ReportsFirst line old new) _
    (λ xs ys zs so_far next. so_far ∙ ap (λ l. map event_of_text texts ++ l) (next.events ∙ ap (λ t. t ∷ to_come new zs) (sym line_is))
    ∙ sym (append_assoc (map event_of_text texts) (event_of_text text ∷ []) (to_come new zs))
    ∙ ap (λ l. l ++ to_come new zs) (sym (map-append event_of_text texts (text ∷ [])) ∙ ap (map event_of_text) (sym more_is)))
    so_far next

-- the lines give the bytes
concat-onto_first : (byte : ℕ) (all : List (List ℕ)) → concat (onto_first byte all) ≡ byte ∷ concat all
concat-onto_first byte [] = refl
concat-onto_first byte (line ∷ rest) = refl

pub concat-raw_lines : (bytes : List ℕ) → concat (raw_lines bytes) ≡ bytes
concat-raw_lines [] = refl
concat-raw_lines (byte ∷ rest) = at (byte == 10) (concat-raw_lines rest)
  where
    at : (b : Bool) → concat (raw_lines rest) ≡ rest → concat (cond b ((byte ∷ []) ∷ raw_lines rest) (onto_first byte (raw_lines rest))) ≡ byte ∷ rest
    at true all = ap (λ l. byte ∷ l) all
    at false all = concat-onto_first byte (raw_lines rest) ∙ ap (λ l. byte ∷ l) all

whole-onto : (byte : ℕ) (raw : List ℕ) → (byte == 10) ≡ false → IsWholeLine raw → IsWholeLine (byte ∷ raw)
whole-onto byte raw other whole = record {
  text = byte ∷ whole.text;
  is = ap (λ l. byte ∷ l) whole.is;
  only = ap (λ b. cond b 1 0 + newlines whole.text) other ∙ (let only = whole.only in omega arith);
}

AreLines-onto_first : (byte : ℕ) (all : List (List ℕ)) → (byte == 10) ≡ false → AreLines all → AreLines (onto_first byte all)
AreLines-onto_first byte [] other are = inr (ap (λ b. cond b 1 0 + 0) other, omega arith)
AreLines-onto_first byte (raw ∷ []) other (inl whole) = inl (whole-onto byte raw other whole)
AreLines-onto_first byte (raw ∷ []) other (inr last) = inr (ap (λ b. cond b 1 0 + newlines raw) other ∙ (let none = last.0 in omega arith), omega arith)
AreLines-onto_first byte (raw ∷ next ∷ rest) other are = (whole-onto byte raw other are.0, are.1)

AreLines-newline : (all : List (List ℕ)) → AreLines all → AreLines ((10 ∷ []) ∷ all)
AreLines-newline [] are = inl (record { text = []; is = refl; only = refl })
AreLines-newline (raw ∷ rest) are = (record { text = []; is = refl; only = refl }, are)

-- the lines are cut at each LF
pub AreLines-raw_lines : (bytes : List ℕ) → AreLines (raw_lines bytes)
AreLines-raw_lines [] = tt
AreLines-raw_lines (byte ∷ rest) = at (byte == 10) refl (AreLines-raw_lines rest)
  where
    at : (b : Bool) → (byte == 10) ≡ b → AreLines (raw_lines rest) → AreLines (cond b ((byte ∷ []) ∷ raw_lines rest) (onto_first byte (raw_lines rest)))
    at true is are = subst (λ n. AreLines ((n ∷ []) ∷ raw_lines rest)) (sym (eqb-true byte 10 is)) (AreLines-newline (raw_lines rest) are)
    at false is are = AreLines-onto_first byte (raw_lines rest) is are

-- within the budget each line is reported by itself
pub line_events-within : (limit room : ℕ) (raws : List (List ℕ)) → length (concat raws) ≤ room → line_events limit room raws ≡ map (line_event_of limit) raws
line_events-within limit room [] within = refl
line_events-within limit room (raw ∷ rest) within =
    let short : leb (length raw) room ≡ true = le-leb _ _ (omega (arith, length-append raw (concat rest))) in
    ap (λ b. cond b (line_event_of limit raw ∷ line_events limit (room - length raw) rest) (PastBudget ∷ [])) short
    ∙ ap (λ l. line_event_of limit raw ∷ l) (line_events-within limit (room - length raw) rest (omega (arith, length-append raw (concat rest))))

-- past the budget the first lines are reported, and then the budget
pub line_events-beyond : (limit room : ℕ) (raws : List (List ℕ)) → room < length (concat raws) → (count : ℕ) × (line_events limit room raws ≡ map (line_event_of limit) (take count raws) ++ PastBudget ∷ [])
line_events-beyond limit room [] past = absurd (omega arith)
line_events-beyond limit room (raw ∷ rest) past = at (leb (length raw) room) refl (line_events-beyond limit (room - length raw) rest)
  where
    at : (b : Bool) → leb (length raw) room ≡ b → (room - length raw < length (concat rest) → (count : ℕ) × (line_events limit (room - length raw) rest ≡ map (line_event_of limit) (take count rest) ++ PastBudget ∷ []))
        → (count : ℕ) × (cond b (line_event_of limit raw ∷ line_events limit (room - length raw) rest) (PastBudget ∷ []) ≡ map (line_event_of limit) (take count (raw ∷ rest)) ++ PastBudget ∷ [])
    at true is more =
        let next = more (omega (arith, leb-true _ _ is, length-append raw (concat rest))) in
        (suc next.0, ap (λ l. line_event_of limit raw ∷ l) next.1)
    at false is more = (0, refl)

-- what is reported of a line within the budget, where its text was read
event-capped : (limit : ℕ) (raw : List ℕ) (text : Option (List ℕ)) (b : Bool) → leb (length (line_text raw)) limit ≡ b
    → cond b (Whole (line_text raw)) OverLong ≡ event_of_text text → text ≡ cond b (Some (line_text raw)) None
event-capped limit raw (Some text) true is event = cc
event-capped limit raw None true is event = cc
event-capped limit raw (Some text) false is event = cc
event-capped limit raw None false is event = refl

-- no line within the budget is reported as past it
not_past : (limit : ℕ) (raw : List ℕ) (b : Bool) → leb (length (line_text raw)) limit ≡ b → cond b (Whole (line_text raw)) OverLong ≡ PastBudget → ⊥
not_past limit raw true is past = cc
not_past limit raw false is past = cc

event_not_past : (text : Option (List ℕ)) → PastBudget ≡ event_of_text text → ⊥
event_not_past (Some text) past = cc
event_not_past None past = cc

-- all that was reported are lines that were read: then they are all lines, and within the budget
pub line_events-all : (limit room : ℕ) (raws : List (List ℕ)) (texts : List (Option (List ℕ))) → line_events limit room raws ≡ map event_of_text texts
    → (length (concat raws) ≤ room) × (texts ≡ map (capped limit) (map line_text raws))
line_events-all limit room [] [] all = (omega arith, refl)
line_events-all limit room [] (text ∷ texts) all = cc
line_events-all limit room (raw ∷ rest) [] all = at (leb (length raw) room) all
  where
    at : (b : Bool) → cond b (line_event_of limit raw ∷ line_events limit (room - length raw) rest) (PastBudget ∷ []) ≡ [] → (length (concat (raw ∷ rest)) ≤ room) × ([] ≡ map (capped limit) (map line_text (raw ∷ rest)))
    at true none = cc
    at false none = cc
line_events-all limit room (raw ∷ rest) (text ∷ texts) all = at (leb (length raw) room) refl all (line_events-all limit (room - length raw) rest texts)
  where
    at : (b : Bool) → leb (length raw) room ≡ b → cond b (line_event_of limit raw ∷ line_events limit (room - length raw) rest) (PastBudget ∷ []) ≡ event_of_text text ∷ map event_of_text texts
        → (line_events limit (room - length raw) rest ≡ map event_of_text texts → (length (concat rest) ≤ room - length raw) × (texts ≡ map (capped limit) (map line_text rest)))
        → (length (raw ++ concat rest) ≤ room) × (text ∷ texts ≡ map (capped limit) (map line_text (raw ∷ rest)))
    at true is all more =
        let head : line_event_of limit raw ≡ event_of_text text = cc in
        let others : line_events limit (room - length raw) rest ≡ map event_of_text texts = cc in
        let below = more others in
        let within = leb-true _ _ is in
        let text_is : text ≡ capped limit (line_text raw) = event-capped limit raw text (leb (length (line_text raw)) limit) refl head in
        (omega (arith, length-append raw (concat rest), below.0), ap (λ t. t ∷ texts) text_is ∙ ap (λ l. capped limit (line_text raw) ∷ l) below.1)
    at false is all more =
        let head : PastBudget ≡ event_of_text text = cc in
        absurd (event_not_past text head)

-- the lines that were read are followed by one past the budget: then all bytes are more than the budget
pub line_events-past_all : (limit room : ℕ) (raws : List (List ℕ)) (texts : List (Option (List ℕ))) → line_events limit room raws ≡ map event_of_text texts ++ PastBudget ∷ [] → room < length (concat raws)
line_events-past_all limit room [] [] all = cc
line_events-past_all limit room [] (text ∷ texts) all = cc
line_events-past_all limit room (raw ∷ rest) [] all = at (leb (length raw) room) refl all
  where
    at : (b : Bool) → leb (length raw) room ≡ b → cond b (line_event_of limit raw ∷ line_events limit (room - length raw) rest) (PastBudget ∷ []) ≡ PastBudget ∷ [] → room < length (raw ++ concat rest)
    at true is all =
        let head : line_event_of limit raw ≡ PastBudget = cc in
        absurd (not_past limit raw (leb (length (line_text raw)) limit) refl head)
    at false is all = omega (arith, leb-false _ _ is, length-append raw (concat rest))
line_events-past_all limit room (raw ∷ rest) (text ∷ texts) all = at (leb (length raw) room) refl all (line_events-past_all limit (room - length raw) rest texts)
  where
    at : (b : Bool) → leb (length raw) room ≡ b → cond b (line_event_of limit raw ∷ line_events limit (room - length raw) rest) (PastBudget ∷ []) ≡ event_of_text text ∷ (map event_of_text texts ++ PastBudget ∷ [])
        → (line_events limit (room - length raw) rest ≡ map event_of_text texts ++ PastBudget ∷ [] → room - length raw < length (concat rest)) → room < length (raw ++ concat rest)
    at true is all more =
        let others : line_events limit (room - length raw) rest ≡ map event_of_text texts ++ PastBudget ∷ [] = cc in
        omega (arith, leb-true _ _ is, length-append raw (concat rest), more others)
    at false is all more =
        let head : PastBudget ≡ event_of_text text = cc in
        absurd (event_not_past text head)

-- all lines were read
pub all-read : (a b c : Option (List ℕ)) (limit budget : ℕ) (texts : List (Option (List ℕ))) (old : ReaderState)
    → WhenKnown a b (λ before after. line_events limit budget (raw_lines before) ≡ map event_of_text texts ++ to_come old after)
    → WhenKnown b c (λ before after. ahead old before ≡ [])
    → IfSome a (λ bytes. (length bytes ≤ budget) × (texts ≡ map (capped limit) (lines bytes)))
all-read a b c limit budget texts old so_far at_end =
    WhenKnown-before a c (λ xs zs. (length xs ≤ budget) × (texts ≡ map (capped limit) (lines xs))) _ (λ xs zs is. is)
    (WhenKnown-then a b c _ (λ before after. ahead old before ≡ []) _
    (λ xs ys zs so_far at_end.
    let none : to_come old ys ≡ [] = ap (λ l. line_events old.limit old.room (raw_lines l)) at_end in
    let all = line_events-all limit budget (raw_lines xs) texts (so_far ∙ ap (λ l. map event_of_text texts ++ l) none ∙ append-nil (map event_of_text texts)) in
    (omega (arith, all.0, ap length (concat-raw_lines xs)), all.1)) so_far at_end)

-- the slot has more bytes than the budget
pub past-read : (a b c : Option (List ℕ)) (limit budget : ℕ) (texts : List (Option (List ℕ))) (old : ReaderState)
    → WhenKnown a b (λ before after. line_events limit budget (raw_lines before) ≡ map event_of_text texts ++ to_come old after)
    → WhenKnown b c (λ before after. to_come old before ≡ PastBudget ∷ [])
    → IfSome a (λ bytes. budget < length bytes)
past-read a b c limit budget texts old so_far past =
    WhenKnown-before a c (λ xs zs. budget < length xs) _ (λ xs zs is. is)
    (WhenKnown-then a b c _ (λ before after. to_come old before ≡ PastBudget ∷ []) _
    (λ xs ys zs so_far past.
    let more = line_events-past_all limit budget (raw_lines xs) texts (so_far ∙ ap (λ l. map event_of_text texts ++ l) past) in
    omega (arith, more, ap length (concat-raw_lines xs))) so_far past)
