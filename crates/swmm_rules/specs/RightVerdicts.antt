-- Which verdicts a command and a run may write, and what they leave with them.
use Rattle.std.specs.Prelude.{◌⊎◌, ℕ, List, [], Option, None, Some, IfSome, Result, ⊤}
use Rattle.std.specs.Io.KnownBytes.{Appends}
use Rattle.command_outputs.specs.Commands.{Performs}
use Rattle.command_outputs.specs.Runs.{Leaves}
use Rattle.command_outputs.specs.declared.complaint.Complaint.{Complaint}
use Rattle.command_outputs.specs.declared.completion.Completion.{Completion}
use Rattle.command_outputs.specs.declared.status.Status.{Status}
use Rattle.command_outputs.specs.declared.status.Status.TheVariants.{Done, Refused, Usage, Device}
use Rattle.command_outputs.specs.declared.status.Status.TheVariants.{NoMemory, Refuted, Undecided}
use Rattle.verdict_commands.specs.Proves.{AreVerdicts, Decides, asked_project}
use Rattle.verdict_meaning.specs.declared.verdict.Verdict.{Verdict}
use Rattle.swmm_rules.specs.Commands.{CommandLine, Check, Tables, Replay, Prove, Verify, Generate}
use Rattle.swmm_rules.specs.Commands.{outcome, outcome_of_words, roles_of}

-- ---- a command
-- what each answer of a command says of the verdicts; but for `prove`, there is nothing to say
abbrev pub CommandDecides : (List ℕ → Option (List ℕ)) → List Verdict → CommandLine
    → Option (List ℕ) → Option (List ℕ) → Result Completion Complaint → Type 0
CommandDecides held verdicts (Check input) was now result = ⊤
CommandDecides held verdicts (Tables input) was now result = ⊤
CommandDecides held verdicts (Replay input trace) was now result = ⊤
CommandDecides held verdicts (Prove input ranges) was now result =
    Decides (asked_project held input ranges) verdicts was now result
CommandDecides held verdicts (Verify input ranges report) was now result = ⊤
CommandDecides held verdicts (Generate pumps) was now result = ⊤

-- what a command leaves: there are verdicts with which it performs its outcome, and these are right
pub record PerformsCommand (held : List ℕ → Option (List ℕ)) (command : CommandLine)
    (open_now : ℕ → Type 0) (left_was left_now : ℕ → Option (List ℕ))
    (faults_was faults_now : ℕ → ℕ) (out_was out_now : Option (List ℕ))
    (out_faults_was out_faults_now : ℕ) (result : Result Completion Complaint) : Type 0 where
  pub verdicts : List Verdict
  pub right : CommandDecides held verdicts command out_was out_now result
  pub performs : Performs (roles_of command) (outcome held verdicts command)
      open_now left_was left_now faults_was faults_now
      out_was out_now out_faults_was out_faults_now result

-- ---- a run
-- a fact holds, or nothing was written
abbrev pub HoldsOrUnwritten : Type 0 → Option (List ℕ) → Option (List ℕ) → Type 0
HoldsOrUnwritten fact was now = fact ⊎ Appends was now []

-- a fact of what is decided holds by the status: where the run ends as its verdicts say it holds,
-- and else it holds or nothing was written
abbrev pub HoldsByStatus : Type 0 → Option (List ℕ) → Option (List ℕ) → Status → Type 0
HoldsByStatus fact was now Done = fact
HoldsByStatus fact was now Refuted = fact
HoldsByStatus fact was now Undecided = fact
HoldsByStatus fact was now Refused = HoldsOrUnwritten fact was now
HoldsByStatus fact was now Usage = HoldsOrUnwritten fact was now
HoldsByStatus fact was now NoMemory = HoldsOrUnwritten fact was now
HoldsByStatus fact was now Device = HoldsOrUnwritten fact was now

-- the verdicts of a run of `prove` are right, where it is known what it asks
abbrev pub RunDecides : (List ℕ → Option (List ℕ)) → List Verdict → Option CommandLine
    → Option (List ℕ) → Option (List ℕ) → Status → Type 0
RunDecides held verdicts None was now status = ⊤
RunDecides held verdicts (Some (Check input)) was now status = ⊤
RunDecides held verdicts (Some (Tables input)) was now status = ⊤
RunDecides held verdicts (Some (Replay input trace)) was now status = ⊤
RunDecides held verdicts (Some (Prove input ranges)) was now status =
    IfSome (asked_project held input ranges)
    (λ p. HoldsByStatus (AreVerdicts p verdicts) was now status)
RunDecides held verdicts (Some (Verify input ranges report)) was now status = ⊤
RunDecides held verdicts (Some (Generate pumps)) was now status = ⊤

-- What a run leaves: there are verdicts with which it ends as its outcome says, where that is
-- known, and these are right.
pub record LeavesCommand (held : List ℕ → Option (List ℕ)) (command : Option CommandLine)
    (second_was : Option (List ℕ)) (left_now : ℕ → Option (List ℕ))
    (out_was out_now err_was err_now : Option (List ℕ))
    (out_faults_was out_faults_now err_faults_was err_faults_now : ℕ) (result : Status)
    : Type 0 where
  pub verdicts : List Verdict
  pub right : RunDecides held verdicts command out_was out_now result
  pub leaves : IfSome (outcome_of_words held verdicts command)
      (λ o. Leaves o second_was left_now out_was out_now err_was err_now
      out_faults_was out_faults_now err_faults_was err_faults_now result)
