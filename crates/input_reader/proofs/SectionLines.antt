-- The lines of a file so far, and the sections that represent them.
use Rattle.std.proofs.Common.{◌≡◌, ℕ, ◌<◌, ◌≤◌, List, [], ◌∷◌, ◌++◌, map, length, reverse, Option}
use Rattle.std.proofs.Common.{Some, None, IfSome, sym, ◌∙◌, ap, arith, append_assoc}
use Rattle.std.proofs.lemmas.List.{map-append, append-nil, reverse-reverse}
use Rattle.std.proofs.lemmas.Grind.{reverse_onto}
use Rattle.byte_edge.specs.Lines.{raw_lines, lines, capped, line_text, LineEvent, PastBudget}
use Rattle.byte_edge.specs.Lines.{line_events}
use Rattle.byte_edge.specs.ReaderState.{ReaderState, ahead, to_come, WhenKnown, ReportsFirst}
use Rattle.byte_edge.proofs.PublicLaws.{lines_join-joined, known_bytes-start, known_bytes-then}
use Rattle.byte_edge.proofs.PublicLaws.{known_bytes-before}
use Rattle.inp_text.specs.Sections.{Line}
use Rattle.inp_text.specs.internal.Represents.{Represents}
use Rattle.inp_text.specs.declared.sections.Sections.{Sections}
use Rattle.input_reader.proofs.LineEvents.{event_of_text, line_events-all, line_events-past_all}

-- the sections represent lines, and these and those to come are what is reported of the file
pub record ReadSoFar (limit budget : ℕ) (sections : Sections) (reader : ReaderState)
    (was now : Option (List ℕ)) : Type 0 where
  pub earlier : List Line
  pub represents : Represents sections earlier
  pub known : WhenKnown was now (λ before after. line_events limit budget (raw_lines before)
      ≡ map event_of_text (reverse earlier) ++ to_come reader after)

-- no line was read
pub read-none : (a : Option (List ℕ)) (limit budget : ℕ) (sections : Sections) (reader : ReaderState)
    → Represents sections []
    → ((bytes : List ℕ) → line_events limit budget (raw_lines bytes) ≡ to_come reader bytes)
    → ReadSoFar limit budget sections reader a a
read-none a limit budget sections reader none fresh = record {
  earlier = [];
  represents = none;
  known = known_bytes-start a (λ before after. line_events limit budget (raw_lines before)
      ≡ to_come reader after) fresh;
}

-- one more line was read
pub read-more : (a b c : Option (List ℕ)) (limit budget : ℕ) (was now : Sections) (text : Line)
    (line : LineEvent) (old new : ReaderState)
    → ((earlier : List Line) → Represents was earlier → Represents now (text ∷ earlier))
    → event_of_text text ≡ line
    → ReadSoFar limit budget was old a b
    → WhenKnown b c (ReportsFirst line old new)
    → ReadSoFar limit budget now new a c
read-more a b c limit budget was now text line old new taken line_is so_far next =
    let earlier = so_far.earlier in
    let front = map event_of_text (reverse earlier) in
    let P : List ℕ → List ℕ → Type 0 =
    λ before after. line_events limit budget (raw_lines before) ≡ front ++ to_come old after in
    let R : List ℕ → List ℕ → Type 0 = λ before after. line_events limit budget (raw_lines before)
    ≡ map event_of_text (reverse (text ∷ earlier)) ++ to_come new after in
    record {
      earlier = text ∷ earlier;
      represents = taken earlier so_far.represents;
      known = known_bytes-then a b c P (ReportsFirst line old new) R so_far.known next
          (λ xs ys zs events next. events
          ∙ ap (λ l. front ++ l) (next.events ∙ ap (λ t. t ∷ to_come new zs) (sym line_is))
          ∙ sym (append_assoc front (event_of_text text ∷ []) (to_come new zs))
          ∙ ap (λ l. l ++ to_come new zs)
          (sym (map-append event_of_text (reverse earlier) (text ∷ []))
          ∙ ap (map event_of_text) (sym (reverse_onto earlier text []))));
    }

-- all lines were read
pub read-all : (a b c : Option (List ℕ)) (limit budget : ℕ) (sections : Sections)
    (old : ReaderState) (so_far : ReadSoFar limit budget sections old a b)
    → WhenKnown b c (λ before after. ahead old before ≡ [])
    → IfSome a (λ bytes. (length bytes ≤ budget)
    × (so_far.earlier ≡ reverse (map (capped limit) (lines bytes))))
read-all a b c limit budget sections old so_far at_end =
    let earlier = so_far.earlier in
    let front = map event_of_text (reverse earlier) in
    let P : List ℕ → List ℕ → Type 0 =
    λ before after. line_events limit budget (raw_lines before) ≡ front ++ to_come old after in
    let Q : List ℕ → Type 0 = λ xs. (length xs ≤ budget)
    × (earlier ≡ reverse (map (capped limit) (lines xs))) in
    let R : List ℕ → List ℕ → Type 0 = λ xs zs. Q xs in
    let E : List ℕ → List ℕ → Type 0 = λ before after. ahead old before ≡ [] in
    known_bytes-before a c R Q
    (known_bytes-then a b c P E R so_far.known at_end
    (λ xs ys zs events at_end.
    let none : to_come old ys ≡ [] =
    ap (λ l. line_events old.limit old.room (raw_lines l)) at_end in
    let all = line_events-all limit budget (raw_lines xs) (reverse earlier)
    (events ∙ ap (λ l. front ++ l) none ∙ append-nil front) in (
      omega (arith, all.0, ap length (lines_join-joined xs)),
      sym (reverse-reverse earlier) ∙ ap reverse all.1,
    )))
    (λ xs zs is. is)

-- the file has more bytes than the budget
pub read-past : (a b c : Option (List ℕ)) (limit budget : ℕ) (sections : Sections)
    (old : ReaderState)
    → ReadSoFar limit budget sections old a b
    → WhenKnown b c (λ before after. to_come old before ≡ PastBudget ∷ [])
    → IfSome a (λ bytes. budget < length bytes)
read-past a b c limit budget sections old so_far past =
    let earlier = so_far.earlier in
    let front = map event_of_text (reverse earlier) in
    let P : List ℕ → List ℕ → Type 0 =
    λ before after. line_events limit budget (raw_lines before) ≡ front ++ to_come old after in
    let Q : List ℕ → Type 0 = λ xs. budget < length xs in
    let R : List ℕ → List ℕ → Type 0 = λ xs zs. Q xs in
    let E : List ℕ → List ℕ → Type 0 = λ before after. to_come old before ≡ PastBudget ∷ [] in
    known_bytes-before a c R Q
    (known_bytes-then a b c P E R so_far.known past
    (λ xs ys zs events past.
    let more = line_events-past_all limit budget (raw_lines xs) (reverse earlier)
    (events ∙ ap (λ l. front ++ l) past) in
    omega (arith, more, ap length (lines_join-joined xs))))
    (λ xs zs is. is)
