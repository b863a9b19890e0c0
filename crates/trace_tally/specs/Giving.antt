-- What an answer says of the value that is due.
use Rattle.std.specs.Prelude.{◌≡◌, ℕ, List, Result, Ok, Err, ⊤}
use Rattle.exact_fraction.specs.Number.{Rational}
use Rattle.command_outputs.specs.Messages.{too_long_line}
use Rattle.command_outputs.specs.declared.complaint.Complaint.{Complaint}
use Rattle.command_outputs.specs.declared.complaint.Complaint.TheVariants.{Refused, TooLong}
use Rattle.command_outputs.specs.declared.complaint.Complaint.TheVariants.{ReadFailed, WriteFailed}
use Rattle.command_outputs.specs.declared.complaint.Complaint.TheVariants.{OutOfMemory}
use Rattle.trace_tally.specs.Tallies.{Tally}
use Rattle.trace_tally.specs.declared.tally.Replayed.{Replayed}

-- a value is what is due, as `view` sees it; a refusal has the line that is due; and memory may be
-- wanting
abbrev pub Gives : {A T : Type 0} → Result A (List ℕ) → (T → A) → Result T Complaint → Type 0
Gives due view (Ok value) = due ≡ Ok (view value)
Gives due view (Err (Refused line)) = due ≡ Err line
Gives due view (Err (TooLong r)) = due ≡ Err (too_long_line r)
Gives due view (Err (ReadFailed r)) = ⊥
Gives due view (Err WriteFailed) = ⊥
Gives due view (Err OutOfMemory) = ⊤

-- these switches with these settings, and what a replay came to
abbrev pub tally_with : List Rational → ℕ → Tally
tally_with settings switches = record { switches = switches; settings = settings }

abbrev pub tally_seen : Replayed → Tally
tally_seen replayed = tally_with replayed.settings.items replayed.switches
