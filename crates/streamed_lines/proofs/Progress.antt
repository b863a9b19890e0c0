-- How far a trace has come among its lines, and what of its text waits.
use Rattle.std.proofs.Common.{◌≡◌, ℕ, ◌+◌, false, List, [], ◌∷◌, ◌++◌, length, take, Option, None, Some}
use Rattle.std.proofs.Common.{ap, refl, sym, ◌∙◌, cond, arith, subst}
use Rattle.std.proofs.lemmas.List.{append-nil, append_assoc, length-append}
use Rattle.std.proofs.Math.Seq.{take-append_seam}
use Rattle.std.specs.Io.KnownBytes.{Appends}
use Rattle.byte_edge.specs.Devices.{AppendsPrefix}
use Rattle.byte_edge.specs.Lines.{LineEvent, Whole, newlines}
use Rattle.byte_edge.specs.ReaderState.{ReaderState, ahead, to_come, ReportsFirst}
use Rattle.byte_edge.proofs.PublicLaws.{written_bytes-nothing, written_bytes-then, written_bytes-same}
use Rattle.byte_edge.proofs.PublicLaws.{written_bytes-prefix, written_bytes-prefix_after}
use Rattle.streamed_lines.specs.Printers.{AddsText}
use Rattle.streamed_lines.specs.Streams.{Printed, prefixed, ends}
use Rattle.streamed_lines.specs.internal.Waiting.{Holding, Moves, WaitsTaken, EndsWaiting}

-- ---- what waits
pub holding_moves : (was mid now : Option (List ℕ)) (old new text : List ℕ) → Holding was mid old text
    → Moves old new mid now → Holding was now new text
holding_moves was mid now old new text h m = record {
  sent = h.sent ++ m.moved;
  written = written_bytes-then was mid now h.sent m.moved h.written m.written;
  is = h.is ∙ ap (λ bytes. h.sent ++ bytes) m.is ∙ sym (append_assoc h.sent m.moved new);
}

pub holding_more : (was now : Option (List ℕ)) (old new text more : List ℕ) → Holding was now old text
    → new ≡ old ++ more → Holding was now new (text ++ more)
holding_more was now old new text more h added = record {
  sent = h.sent;
  written = h.written;
  is = ap (λ bytes. bytes ++ more) h.is ∙ append_assoc h.sent old more
      ∙ ap (λ bytes. h.sent ++ bytes) (sym added);
}

pub holding_same : (was now : Option (List ℕ)) (waiting text other : List ℕ) → text ≡ other
    → Holding was now waiting text → Holding was now waiting other
holding_same was now waiting text other same h =
    record { sent = h.sent; written = h.written; is = sym same ∙ h.is }

-- what was written is a prefix of all that begins with the text
pub holding_prefix : (was now : Option (List ℕ)) (waiting text whole rest : List ℕ)
    → Holding was now waiting text → whole ≡ text ++ rest → AppendsPrefix was now whole
holding_prefix was now waiting text whole rest h is =
    let P : List ℕ → Type 0 = λ bytes. AppendsPrefix was now bytes in
    let all : whole ≡ h.sent ++ (waiting ++ rest) =
    is ∙ ap (λ bytes. bytes ++ rest) h.is ∙ append_assoc h.sent waiting rest in
    subst P (sym all) (written_bytes-prefix was now h.sent (waiting ++ rest) h.written)

-- so it is where a prefix of what waits was written too
pub holding_cut : (was mid now : Option (List ℕ)) (waiting text whole rest : List ℕ)
    → Holding was mid waiting text → AppendsPrefix mid now waiting → whole ≡ text ++ rest
    → AppendsPrefix was now whole
holding_cut was mid now waiting text whole rest h cut is =
    let P : List ℕ → Type 0 = λ bytes. AppendsPrefix was now bytes in
    let all : whole ≡ h.sent ++ (waiting ++ rest) =
    is ∙ ap (λ bytes. bytes ++ rest) h.is ∙ append_assoc h.sent waiting rest in
    subst P (sym all) (written_bytes-prefix_after was mid now h.sent waiting rest h.written cut)

-- all is written where what waits is
pub holding_written : (was mid now : Option (List ℕ)) (waiting text : List ℕ)
    → Holding was mid waiting text → Appends mid now waiting → Appends was now text
holding_written was mid now waiting text h wrote =
    written_bytes-same was now (h.sent ++ waiting) text (sym h.is)
    (written_bytes-then was mid now h.sent waiting h.written wrote)

-- ---- progress
-- between two lines: the lines given so far and their text, and what goes on from the printer
pub record Progress (print0 print : ℕ → List LineEvent → Printed) (number : ℕ)
    (reader0 reader : ReaderState) (before after : List ℕ) (was now : Option (List ℕ))
    (waiting : List ℕ) : Type 0 where
  pub given : List LineEvent
  pub text : List ℕ
  pub all : to_come reader0 before ≡ given ++ to_come reader after
  pub printed : (later : List LineEvent)
      → print0 1 (given ++ later) ≡ prefixed text (print number later)
  pub holding : Holding was now waiting text
  pub counted : reader.ended ≡ false
      → newlines (ahead reader0 before) ≡ length given + newlines (ahead reader after)

-- a text and a message
abbrev with_message : Option (List ℕ) → List ℕ → Printed
with_message message text = record { text = text; message = message }

prefixed-prefixed : (a b : List ℕ) (p : Printed) → prefixed a (prefixed b p) ≡ prefixed (a ++ b) p
prefixed-prefixed a b p = ap (with_message p.message) (sym (append_assoc a b p.text))

-- before the first line
pub progress_start : (print : ℕ → List LineEvent → Printed) (reader : ReaderState) (before : List ℕ)
    (was : Option (List ℕ)) (waiting : List ℕ) → waiting ≡ []
    → Progress print print 1 reader reader before before was was waiting
progress_start print reader before was waiting none = record {
  given = [];
  text = [];
  all = refl;
  printed = λ later. refl;
  holding = record { sent = []; written = written_bytes-nothing was; is = sym none };
  counted = λ _. omega arith;
}

-- what waited was handed over
pub progress_moves : (print0 print : ℕ → List LineEvent → Printed) (number : ℕ)
    (reader0 reader : ReaderState) (before after : List ℕ) (was now now' : Option (List ℕ))
    (waiting waiting' : List ℕ)
    → Progress print0 print number reader0 reader before after was now waiting
    → Moves waiting waiting' now now'
    → Progress print0 print number reader0 reader before after was now' waiting'
progress_moves print0 print number reader0 reader before after was now now' waiting waiting' p moves = record {
  given = p.given;
  text = p.text;
  all = p.all;
  printed = p.printed;
  holding = holding_moves was now now' waiting waiting' p.text p.holding moves;
  counted = p.counted;
}

-- a line more
pub progress_line : (print0 print next : ℕ → List LineEvent → Printed) (number : ℕ)
    (reader0 reader reader' : ReaderState) (before after after' : List ℕ) (was now : Option (List ℕ))
    (waiting waiting' : List ℕ) (line : LineEvent)
    → Progress print0 print number reader0 reader before after was now waiting
    → ReportsFirst line reader reader' after after'
    → (reader'.ended ≡ false → reader.ended ≡ false)
    → AddsText print next line number waiting waiting'
    → Progress print0 next (number + 1) reader0 reader' before after' was now waiting'
progress_line print0 print next number reader0 reader reader' before after after' was now waiting waiting' line p step awake adds = record {
  given = p.given ++ line ∷ [];
  text = p.text ++ adds.text;
  all = p.all ∙ ap (λ lines. p.given ++ lines) step.events
      ∙ sym (append_assoc p.given (line ∷ []) (to_come reader' after'));
  printed = λ later.
      ap (print0 1) (append_assoc p.given (line ∷ []) later) ∙ p.printed (line ∷ later)
      ∙ ap (prefixed p.text) (adds.printed later)
      ∙ prefixed-prefixed p.text adds.text (next (number + 1) later);
  holding = holding_more was now waiting waiting' p.text adds.text p.holding adds.added;
  counted = λ going.
      let step' = ap (λ b. newlines (ahead reader' after') + cond b 0 1) going in
      omega (arith, p.counted (awake going), step.counted, step', length-append p.given (line ∷ []));
}

-- all that is printed: the text so far, and what is still to come
printed_all : (print0 print : ℕ → List LineEvent → Printed) (number : ℕ)
    (reader0 reader : ReaderState) (before after : List ℕ) (was now : Option (List ℕ))
    (waiting : List ℕ) → (p : Progress print0 print number reader0 reader before after was now waiting)
    → print0 1 (to_come reader0 before) ≡ prefixed p.text (print number (to_come reader after))
printed_all print0 print number reader0 reader before after was now waiting p =
    ap (print0 1) p.all ∙ p.printed (to_come reader after)

-- what is to come ends the text
pub progress_ends : (print0 print : ℕ → List LineEvent → Printed) (number : ℕ)
    (reader0 reader : ReaderState) (before after : List ℕ) (was now : Option (List ℕ))
    (waiting : List ℕ) (message : Option (List ℕ))
    → Progress print0 print number reader0 reader before after was now waiting
    → print number (to_come reader after) ≡ ends message
    → EndsWaiting (print0 1 (to_come reader0 before)) message was now waiting
progress_ends print0 print number reader0 reader before after was now waiting message p is =
    let all = printed_all print0 print number reader0 reader before after was now waiting p
    ∙ ap (prefixed p.text) is in
    record {
      ends = ap (λ printed. printed.message) all;
      holding = holding_same was now waiting p.text _
          (sym (ap (λ printed. printed.text) all ∙ append-nil p.text)) p.holding;
    }

-- what was written is a prefix of all that is printed
pub progress_prefix : (print0 print : ℕ → List LineEvent → Printed) (number : ℕ)
    (reader0 reader : ReaderState) (before after : List ℕ) (was now : Option (List ℕ))
    (waiting : List ℕ) → Progress print0 print number reader0 reader before after was now waiting
    → AppendsPrefix was now (print0 1 (to_come reader0 before)).text
progress_prefix print0 print number reader0 reader before after was now waiting p =
    holding_prefix was now waiting p.text _ (print number (to_come reader after)).text p.holding
    (ap (λ printed. printed.text) (printed_all print0 print number reader0 reader before after was now waiting p))

-- so it is where handing over failed
pub progress_cut : (print0 print : ℕ → List LineEvent → Printed) (number : ℕ)
    (reader0 reader : ReaderState) (before after : List ℕ) (was now now' : Option (List ℕ))
    (waiting : List ℕ) → Progress print0 print number reader0 reader before after was now waiting
    → AppendsPrefix now now' waiting
    → AppendsPrefix was now' (print0 1 (to_come reader0 before)).text
progress_cut print0 print number reader0 reader before after was now now' waiting p cut =
    holding_cut was now now' waiting p.text _ (print number (to_come reader after)).text p.holding cut
    (ap (λ printed. printed.text) (printed_all print0 print number reader0 reader before after was now waiting p))

-- a read failed
pub progress_taken : (print0 print : ℕ → List LineEvent → Printed) (number : ℕ)
    (reader0 reader : ReaderState) (before after left : List ℕ) (was now : Option (List ℕ))
    (waiting : List ℕ) → Progress print0 print number reader0 reader before after was now waiting
    → reader.ended ≡ false → newlines (ahead reader after) ≡ newlines left
    → (print number []).text ≡ []
    → WaitsTaken (print0 1) (to_come reader0 before) (newlines (ahead reader0 before)) left was now waiting
progress_taken print0 print number reader0 reader before after left was now waiting p going counted none =
    let front : take (length p.given) (to_come reader0 before) ≡ p.given ++ [] =
    ap (take (length p.given)) p.all ∙ take-append_seam p.given (to_come reader after)
    ∙ sym (append-nil p.given) in
    let text : (print0 1 (take (length p.given) (to_come reader0 before))).text ≡ p.text =
    ap (λ lines. (print0 1 lines).text) front ∙ ap (λ printed. printed.text) (p.printed [])
    ∙ ap (λ bytes. p.text ++ bytes) none ∙ append-nil p.text in
    record {
      count = length p.given;
      taken = omega (arith, p.counted going, counted);
      holding = holding_same was now waiting p.text _ (sym text) p.holding;
      rest = (print number (to_come reader after)).text;
      is = ap (λ printed. printed.text)
          (printed_all print0 print number reader0 reader before after was now waiting p)
          ∙ ap (λ bytes. bytes ++ (print number (to_come reader after)).text) (sym text);
    }
