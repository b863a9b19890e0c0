-- A project that is replayed, and the text over two files.
use Rattle.std.proofs.Common.{◌≡◌, ℕ, List, Vec, Global, Result, sym, subst}
use Rattle.command_outputs.specs.declared.complaint.Complaint.{Complaint}
use Rattle.generated_replay.specs.GeneratedText.{text_of}
use Rattle.replay_meaning.specs.Standing.{CanReplay}
use Rattle.rule_meaning.proofs.PublicLaws.{orders-settled}
use Rattle.rule_meaning.specs.Reading.{Choice, settling}
use Rattle.rule_types.specs.Tables.{TableSet, HoldsTables}
use Rattle.rule_types.specs.WellFormed.{WellFormed}
use Rattle.rule_types.specs.declared.rules.Rules.{Rules}
use Rattle.trace_tally.specs.Giving.{Gives}

-- rules can be replayed where each link takes its settled pair
pub can_replay : (x : Rules) (tables held : TableSet) (choice : Choice) → WellFormed x
    → HoldsTables tables x.rules → held ≡ tables → choice ≡ settling x → CanReplay choice x held
can_replay x tables held choice formed holds same chosen =
    let settled : CanReplay (settling x) x tables = record {
      formed = formed;
      acts = orders-settled x;
      held = holds;
    } in
    subst (λ (c : Choice). CanReplay c x held) (sym chosen)
    (subst (λ (t : TableSet). CanReplay (settling x) x t) (sym same) settled)

-- the text over the files that were made
pub over_files : (n : ℕ) (input trace made_input made_trace : List ℕ)
    (result : Result (Vec ℕ Global) Complaint) → input ≡ made_input → trace ≡ made_trace
    → Gives (text_of n input trace) (λ text. text.items) result
    → Gives (text_of n made_input made_trace) (λ text. text.items) result
over_files n input trace made_input made_trace result one other gives =
    subst (λ (i : List ℕ). Gives (text_of n i made_trace) (λ text. text.items) result) one
    (subst (λ (t : List ℕ). Gives (text_of n input t) (λ text. text.items) result) other gives)
