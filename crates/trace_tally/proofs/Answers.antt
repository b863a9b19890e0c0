-- What an answer says of what is due, from what it says of a part.
use Rattle.std.proofs.Common.{◌≡◌, ℕ, List, Result, Err, ap, sym, ◌∙◌}
use Rattle.command_outputs.specs.declared.complaint.Complaint.{Complaint}
use Rattle.command_outputs.specs.declared.complaint.Complaint.TheVariants.{Refused, TooLong}
use Rattle.command_outputs.specs.declared.complaint.Complaint.TheVariants.{ReadFailed, WriteFailed}
use Rattle.command_outputs.specs.declared.complaint.Complaint.TheVariants.{OutOfMemory}
use Rattle.trace_tally.specs.Giving.{Gives}
use Rattle.trace_tally.specs.Tallies.{Tally}
use Rattle.trace_tally.specs.internal.Starting.{Says}
use Rattle.trace_tally.specs.internal.Taking.{Refuses}

-- a complaint that says the line that is due
pub refuses_said : (due : Result Tally (List ℕ)) (said : List ℕ) (complaint : Complaint)
    → due ≡ Err said → Says said complaint → Refuses due complaint
refuses_said due said (Refused line) is says = is ∙ ap (λ (l : List ℕ). Err l) (sym says)
refuses_said due said (TooLong r) is says = absurd says
refuses_said due said (ReadFailed r) is says = absurd says
refuses_said due said WriteFailed is says = absurd says
refuses_said due said OutOfMemory is says = tt

pub refuses_gives : {U : Type 0} (due : Result Tally (List ℕ)) (view : U → Tally)
    (complaint : Complaint) → Refuses due complaint → Gives due view (Err complaint)
refuses_gives due view (Refused line) refuses = refuses
refuses_gives due view (TooLong r) refuses = refuses
refuses_gives due view (ReadFailed r) refuses = refuses
refuses_gives due view WriteFailed refuses = refuses
refuses_gives due view OutOfMemory refuses = refuses
