-- The progress of a trace over several calls, where its bytes are known.
use Rattle.std.proofs.Common.{◌≡◌, ℕ, ◌+◌, false, List, [], ◌∷◌, Option, Some, None, ap, ◌∙◌, sym, subst}
use Rattle.byte_edge.specs.Devices.{AppendsPrefix}
use Rattle.byte_edge.specs.Lines.{LineEvent, PastBudget, newlines, line_events, raw_lines}
use Rattle.byte_edge.specs.ReaderState.{ReaderState, WhenKnown, ReportsFirst, IsRestOfLine, ahead, to_come}
use Rattle.byte_edge.proofs.PublicLaws.{known_bytes-start, known_bytes-then, known_bytes-map}
use Rattle.streamed_lines.specs.Printers.{AddsText, EndsAt}
use Rattle.streamed_lines.specs.Streams.{Printed, ends}
use Rattle.streamed_lines.specs.internal.Waiting.{Moves, WaitsTaken, EndsWaiting}
use Rattle.streamed_lines.proofs.Progress.{Progress, progress_start, progress_moves, progress_line}
use Rattle.streamed_lines.proofs.Progress.{progress_ends, progress_prefix, progress_cut, progress_taken}

abbrev pub KnownProgress : (ℕ → List LineEvent → Printed) → (ℕ → List LineEvent → Printed) → ℕ
    → ReaderState → ReaderState → Option (List ℕ) → Option (List ℕ) → Option (List ℕ)
    → Option (List ℕ) → List ℕ → Type 0
KnownProgress print0 print number reader0 reader left0 left was now waiting =
    WhenKnown left0 left (λ before after.
    Progress print0 print number reader0 reader before after was now waiting)

pub known_start : (print : ℕ → List LineEvent → Printed) (reader : ReaderState)
    (left was : Option (List ℕ)) (waiting : List ℕ) → waiting ≡ []
    → KnownProgress print print 1 reader reader left left was was waiting
known_start print reader left was waiting none =
    known_bytes-start left
    (λ before after. Progress print print 1 reader reader before after was was waiting)
    (λ bytes. progress_start print reader bytes was waiting none)

pub known_moves : (print0 print : ℕ → List LineEvent → Printed) (number : ℕ)
    (reader0 reader : ReaderState) (left0 left was now now' : Option (List ℕ))
    (waiting waiting' : List ℕ)
    → KnownProgress print0 print number reader0 reader left0 left was now waiting
    → Moves waiting waiting' now now'
    → KnownProgress print0 print number reader0 reader left0 left was now' waiting'
known_moves print0 print number reader0 reader left0 left was now now' waiting waiting' progress moves =
    known_bytes-map left0 left _ _ progress
    (λ before after p. progress_moves print0 print number reader0 reader before after was now now' waiting waiting' p moves)

pub known_line : (print0 print next : ℕ → List LineEvent → Printed) (number : ℕ)
    (reader0 reader reader' : ReaderState) (left0 left left' was now : Option (List ℕ))
    (waiting waiting' : List ℕ) (line : LineEvent)
    → KnownProgress print0 print number reader0 reader left0 left was now waiting
    → WhenKnown left left' (ReportsFirst line reader reader')
    → reader.ended ≡ false
    → AddsText print next line number waiting waiting'
    → KnownProgress print0 next (number + 1) reader0 reader' left0 left' was now waiting'
known_line print0 print next number reader0 reader reader' left0 left left' was now waiting waiting' line progress step awake adds =
    known_bytes-then left0 left left' _ _ _ progress step
    (λ before between after p q. progress_line print0 print next number reader0 reader reader' before between after was now waiting waiting' line p q (λ _. awake) adds)

-- a line ends the text
pub known_refused : (print0 print : ℕ → List LineEvent → Printed) (number : ℕ)
    (reader0 reader reader' : ReaderState) (left0 left left' was now : Option (List ℕ))
    (waiting waiting' message : List ℕ) (line : LineEvent)
    → KnownProgress print0 print number reader0 reader left0 left was now waiting
    → WhenKnown left left' (ReportsFirst line reader reader')
    → waiting' ≡ waiting
    → EndsAt print line number message
    → WhenKnown left0 left' (λ before after. EndsWaiting (print0 1 (to_come reader0 before)) (Some message) was now waiting')
known_refused print0 print number reader0 reader reader' left0 left left' was now waiting waiting' message line progress step same refused =
    known_bytes-then left0 left left' _ (ReportsFirst line reader reader') _ progress step
    (λ before between after p q.
    let P : List ℕ → Type 0 =
    λ bytes. EndsWaiting (print0 1 (to_come reader0 before)) (Some message) was now bytes in
    subst P (sym same) (progress_ends print0 print number reader0 reader before between was now waiting (Some message) p
    (at between after q)))
  where
    at : (between after : List ℕ) → ReportsFirst line reader reader' between after
        → print number (to_come reader between) ≡ ends (Some message)
    at between after q = ap (print number) q.events ∙ refused (to_come reader' after)

-- the end of the lines ends the text
pub known_ended : (print0 print : ℕ → List LineEvent → Printed) (number : ℕ)
    (reader0 reader : ReaderState) (left0 left left' was now : Option (List ℕ))
    (waiting : List ℕ) (message : Option (List ℕ))
    → KnownProgress print0 print number reader0 reader left0 left was now waiting
    → WhenKnown left left' (λ before after. ahead reader before ≡ [])
    → print number [] ≡ ends message
    → WhenKnown left0 left' (λ before after. EndsWaiting (print0 1 (to_come reader0 before)) message was now waiting)
known_ended print0 print number reader0 reader left0 left left' was now waiting message progress step ended =
    known_bytes-then left0 left left' _ (λ before after. ahead reader before ≡ []) _ progress step
    (λ before between after p q. progress_ends print0 print number reader0 reader before between was now waiting message p
    (ap (λ bytes. print number (line_events reader.limit reader.room (raw_lines bytes))) q ∙ ended))

-- the budget ends the text
pub known_past : (print0 print : ℕ → List LineEvent → Printed) (number : ℕ)
    (reader0 reader : ReaderState) (left0 left left' was now : Option (List ℕ))
    (waiting : List ℕ) (message : Option (List ℕ))
    → KnownProgress print0 print number reader0 reader left0 left was now waiting
    → WhenKnown left left' (λ before after. to_come reader before ≡ PastBudget ∷ [])
    → print number (PastBudget ∷ []) ≡ ends message
    → WhenKnown left0 left' (λ before after. EndsWaiting (print0 1 (to_come reader0 before)) message was now waiting)
known_past print0 print number reader0 reader left0 left left' was now waiting message progress step ended =
    known_bytes-then left0 left left' _ (λ before after. to_come reader before ≡ PastBudget ∷ []) _ progress step
    (λ before between after p q. progress_ends print0 print number reader0 reader before between was now waiting message p
    (ap (print number) q ∙ ended))

pub known_prefix : (print0 print : ℕ → List LineEvent → Printed) (number : ℕ)
    (reader0 reader : ReaderState) (left0 left left' was now : Option (List ℕ)) (waiting : List ℕ)
    (Q : List ℕ → List ℕ → Type 0)
    → KnownProgress print0 print number reader0 reader left0 left was now waiting
    → WhenKnown left left' Q
    → WhenKnown left0 left' (λ before after. AppendsPrefix was now (print0 1 (to_come reader0 before)).text)
known_prefix print0 print number reader0 reader left0 left left' was now waiting Q progress step =
    known_bytes-then left0 left left' _ Q _ progress step
    (λ before between after p q. progress_prefix print0 print number reader0 reader before between was now waiting p)

pub known_cut : (print0 print : ℕ → List LineEvent → Printed) (number : ℕ)
    (reader0 reader : ReaderState) (left0 left was now now' : Option (List ℕ)) (waiting : List ℕ)
    → KnownProgress print0 print number reader0 reader left0 left was now waiting
    → AppendsPrefix now now' waiting
    → WhenKnown left0 left (λ before after. AppendsPrefix was now' (print0 1 (to_come reader0 before)).text)
known_cut print0 print number reader0 reader left0 left was now now' waiting progress cut =
    known_bytes-map left0 left _ _ progress
    (λ before after p. progress_cut print0 print number reader0 reader before after was now now' waiting p cut)

pub known_taken : (print0 print : ℕ → List LineEvent → Printed) (number : ℕ)
    (reader0 reader : ReaderState) (left0 left left' was now : Option (List ℕ)) (waiting : List ℕ)
    → KnownProgress print0 print number reader0 reader left0 left was now waiting
    → WhenKnown left left' (λ between after. IsRestOfLine (ahead reader between) after)
    → reader.ended ≡ false → (print number []).text ≡ []
    → WhenKnown left0 left' (λ before after. WaitsTaken (print0 1) (to_come reader0 before) (newlines (ahead reader0 before)) after was now waiting)
known_taken print0 print number reader0 reader left0 left left' was now waiting progress step awake none =
    known_bytes-then left0 left left' _ (λ between after. IsRestOfLine (ahead reader between) after) _ progress step
    (λ before between after p q. progress_taken print0 print number reader0 reader before between after was now waiting p awake (counted between after q) none)
  where
    counted : (between after : List ℕ) → IsRestOfLine (ahead reader between) after
        → newlines (ahead reader between) ≡ newlines after
    counted between after q = q.counted
