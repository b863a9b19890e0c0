-- What a line before the header does to what is printed.
use Rattle.std.proofs.Common.{◌≡◌, ℕ, ◌+◌, List, [], ◌++◌, Option, Some, None, Ok, ap, sym, ◌∙◌, subst}
use Rattle.std.proofs.lemmas.List.{append-nil}
use Rattle.byte_edge.specs.Lines.{Whole}
use Rattle.object_index.specs.Objects.{Objects}
use Rattle.rule_types.specs.declared.rules.Rules.{Rules}
use Rattle.rule_types.specs.Tables.{TableSet}
use Rattle.rule_types.specs.WellFormed.{WellFormed}
use Rattle.rule_meaning.specs.Reading.{Choice}
use Rattle.trace_csv.specs.Columns.{Columns, header_of}
use Rattle.replay_meaning.specs.Kept.{Kept, first_kept}
use Rattle.replay_text.specs.Kept.{goes_on}
use Rattle.replay_text.specs.Lines.{header_line}
use Rattle.replay_text.specs.Replays.{header_printed, rows_printed, trace_printed}
use Rattle.replay_text.proofs.PublicLaws.{printing-first}
use Rattle.streamed_lines.specs.Printers.{AddsText}
use Rattle.streamed_lines.specs.Streams.{prefixed}
use Rattle.replay_printer.specs.Printed.{as_printed}
use Rattle.replay_printer.specs.Printing.{printed_by}
use Rattle.replay_printer.specs.internal.Headers.{PrintsHeader}

module _ (choice : Choice) (x : Rules) (tables : TableSet) (objects : Objects) where
  -- ---- before the header
  skipped : (k : Kept) (line text_old text_new : List ℕ) (number : ℕ) → header_of x.input_keys objects line ≡ Ok None → text_new ≡ text_old
      → AddsText (printed_by choice x tables objects None k) (printed_by choice x tables objects None k) (Whole line) number text_old text_new
  skipped k line text_old text_new number is same = record {
    text = [];
    added = same ∙ sym (append-nil text_old);
    printed = λ later.
        ap (λ read. as_printed x.names (header_printed x objects number read (trace_printed choice x tables objects (number + 1) later)
        (λ header. rows_printed choice x tables header [] (number + 1) later))) is;
  }

  taken : (k : Kept) (header : Columns) (line text_old text_new : List ℕ) (number : ℕ) → WellFormed x → k ≡ first_kept x
      → header_of x.input_keys objects line ≡ Ok (Some header) → text_new ≡ text_old ++ header_line x objects
      → AddsText (printed_by choice x tables objects None k) (printed_by choice x tables objects (Some header) k) (Whole line) number text_old text_new
  taken k header line text_old text_new number formed first is added = record {
    text = header_line x objects;
    added = added;
    printed = λ later.
        ap (λ read. as_printed x.names (header_printed x objects number read (trace_printed choice x tables objects (number + 1) later)
        (λ found. rows_printed choice x tables found [] (number + 1) later))) is
        ∙ ap (λ rest. prefixed (header_line x objects) (as_printed x.names rest))
        (printing-first choice x tables header later (number + 1) formed
        ∙ ap (λ kept. goes_on choice x tables header kept (number + 1) later) (sym first));
  }

  pub header_step : (k : Kept) (found : Option Columns) (line text_old text_new : List ℕ) (number : ℕ) → WellFormed x → k ≡ first_kept x
      → PrintsHeader x objects number line text_old text_new (Ok found)
      → AddsText (printed_by choice x tables objects None k) (printed_by choice x tables objects found k) (Whole line) number text_old text_new
  header_step k None line text_old text_new number formed first prints = skipped k line text_old text_new number prints.0 prints.1
  header_step k (Some header) line text_old text_new number formed first prints =
      taken k header line text_old text_new number formed first prints.0 prints.1

  -- the same where the rules have another name
  pub header_line_step : (rules : Rules) (k : Kept) (before found : Option Columns) (line text_old text_new : List ℕ) (number : ℕ) → WellFormed x
      → before ≡ None → rules ≡ x → k ≡ first_kept x → PrintsHeader rules objects number line text_old text_new (Ok found)
      → AddsText (printed_by choice x tables objects before k) (printed_by choice x tables objects found k) (Whole line) number text_old text_new
  header_line_step rules k before found line text_old text_new number formed none same first prints =
      subst (λ h. AddsText (printed_by choice x tables objects h k) (printed_by choice x tables objects found k) (Whole line) number text_old text_new)
      (sym none)
      (header_step k found line text_old text_new number formed first
      (subst (λ (r : Rules). PrintsHeader r objects number line text_old text_new (Ok found)) same prints))
