-- The lines of a file so far, and those still to come.
use Rattle.std.proofs.Common.{◌≡◌, ℕ, ◌<◌, ◌≤◌, List, [], ◌∷◌, ◌++◌, map, length, Option, IfSome}
use Rattle.std.proofs.Common.{Ok, sym, ◌∙◌, ap, arith, append_assoc}
use Rattle.std.proofs.lemmas.List.{map-append, append-nil}
use Rattle.byte_edge.specs.Lines.{raw_lines, LineEvent, PastBudget, line_events}
use Rattle.byte_edge.specs.ReaderState.{ReaderState, ahead, to_come, WhenKnown, ReportsFirst}
use Rattle.byte_edge.proofs.PublicLaws.{lines_join-joined, known_bytes-start, known_bytes-then}
use Rattle.byte_edge.proofs.PublicLaws.{known_bytes-before}
use Rattle.command_outputs.specs.Steps.{JudgesFile, every_file}
use Rattle.command_outputs.specs.declared.file_kind.FileKind.{FileKind}
use Rattle.inp_text.specs.Sections.{Line}
use Rattle.whole_lines.proofs.LineEvents.{event_of_text, line_events-all, line_events-past_all}
use Rattle.whole_lines.specs.Reading.{as_read}

-- these lines were read, and these and those to come are what is reported of the file
abbrev pub IsRead : ℕ → ℕ → List Line → ReaderState → List ℕ → List ℕ → Type 0
IsRead limit budget texts reader before after =
    line_events limit budget (raw_lines before) ≡ map event_of_text texts ++ to_come reader after

-- no line was read
pub read-none : (a : Option (List ℕ)) (limit budget : ℕ) (texts : List Line) (reader : ReaderState)
    → texts ≡ []
    → ((bytes : List ℕ) → line_events limit budget (raw_lines bytes) ≡ to_come reader bytes)
    → WhenKnown a a (IsRead limit budget texts reader)
read-none a limit budget texts reader none fresh =
    known_bytes-start a (IsRead limit budget texts reader)
    (λ bytes. fresh bytes
    ∙ ap (λ front. map event_of_text front ++ to_come reader bytes) (sym none))

-- one more line was read
pub read-more : (a b c : Option (List ℕ)) (limit budget : ℕ) (texts more : List Line) (text : Line)
    (line : LineEvent) (old new : ReaderState)
    → more ≡ texts ++ text ∷ []
    → event_of_text text ≡ line
    → WhenKnown a b (IsRead limit budget texts old)
    → WhenKnown b c (ReportsFirst line old new)
    → WhenKnown a c (IsRead limit budget more new)
read-more a b c limit budget texts more text line old new more_is line_is so_far next =
    let front = map event_of_text texts in
    known_bytes-then a b c (IsRead limit budget texts old) (ReportsFirst line old new)
    (IsRead limit budget more new) so_far next
    (λ xs ys zs events next. events
    ∙ ap (λ l. front ++ l) (next.events ∙ ap (λ t. t ∷ to_come new zs) (sym line_is))
    ∙ sym (append_assoc front (event_of_text text ∷ []) (to_come new zs))
    ∙ ap (λ l. l ++ to_come new zs)
    (sym (map-append event_of_text texts (text ∷ [])) ∙ ap (map event_of_text) (sym more_is)))

-- all lines were read
pub read-all : (a b c : Option (List ℕ)) (kind : FileKind) (texts : List Line) (old : ReaderState)
    → WhenKnown a b (IsRead kind.limit kind.budget texts old)
    → WhenKnown b c (λ before after. ahead old before ≡ [])
    → IfSome a (λ bytes. JudgesFile kind every_file as_read bytes (Ok texts))
read-all a b c kind texts old so_far at_end =
    let front = map event_of_text texts in
    let Q : List ℕ → Type 0 = λ xs. JudgesFile kind every_file as_read xs (Ok texts) in
    let R : List ℕ → List ℕ → Type 0 = λ xs zs. Q xs in
    let E : List ℕ → List ℕ → Type 0 = λ before after. ahead old before ≡ [] in
    known_bytes-before a c R Q
    (known_bytes-then a b c (IsRead kind.limit kind.budget texts old) E R so_far at_end
    (λ xs ys zs events at_end.
    let none : to_come old ys ≡ [] =
    ap (λ l. line_events old.limit old.room (raw_lines l)) at_end in
    let all = line_events-all kind.limit kind.budget (raw_lines xs) texts
    (events ∙ ap (λ l. front ++ l) none ∙ append-nil front) in
    (omega (arith, all.0, ap length (lines_join-joined xs)), ap Ok (sym all.1))))
    (λ xs zs is. is)

-- the file has more bytes than the budget
pub read-past : (a b c : Option (List ℕ)) (limit budget : ℕ) (texts : List Line) (old : ReaderState)
    → WhenKnown a b (IsRead limit budget texts old)
    → WhenKnown b c (λ before after. to_come old before ≡ PastBudget ∷ [])
    → IfSome a (λ bytes. budget < length bytes)
read-past a b c limit budget texts old so_far past =
    let front = map event_of_text texts in
    let Q : List ℕ → Type 0 = λ xs. budget < length xs in
    let R : List ℕ → List ℕ → Type 0 = λ xs zs. Q xs in
    let E : List ℕ → List ℕ → Type 0 = λ before after. to_come old before ≡ PastBudget ∷ [] in
    known_bytes-before a c R Q
    (known_bytes-then a b c (IsRead limit budget texts old) E R so_far past
    (λ xs ys zs events past.
    let more = line_events-past_all limit budget (raw_lines xs) texts
    (events ∙ ap (λ l. front ++ l) past) in
    omega (arith, more, ap length (lines_join-joined xs))))
    (λ xs zs is. is)
