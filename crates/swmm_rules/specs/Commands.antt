-- The commands of the tool, and what each comes to, over what is held under the names of files.
use Rattle.std.specs.Prelude.{ℕ, ◌&&◌, nat_le, if◌then◌else◌, List, [], ◌∷◌, ◌++◌, codes}
use Rattle.std.specs.Prelude.{Option, None, Some, option_map, option_and_then}
use Rattle.std.specs.Str.{bytes_eq}
use Rattle.command_outputs.specs.Outcomes.{Outcome, usage_outcome}
use Rattle.command_outputs.specs.declared.role.Role.{Role}
use Rattle.generated_replay.specs.GeneratedText.{gen_roles, gen_outcome}
use Rattle.num_text.specs.Counts.{count_of}
use Rattle.input_check.specs.Checks.{check_roles, check_outcome}
use Rattle.project_commands.specs.Replays.{replay_roles, replay_outcome}
use Rattle.project_commands.specs.Tables.{tables_roles, tables_outcome}
use Rattle.verdict_commands.specs.Proves.{prove_roles, prove_outcome}
use Rattle.verdict_commands.specs.Verifies.{verify_roles, verify_outcome}
use Rattle.verdict_meaning.specs.declared.verdict.Verdict.{Verdict}

-- a command with the names of its files, or with the number of pumps of a generated model
pub data CommandLine : Type 0 where
  Check : List ℕ → CommandLine
  Tables : List ℕ → CommandLine
  Replay : List ℕ → List ℕ → CommandLine
  Prove : List ℕ → List ℕ → CommandLine
  Verify : List ℕ → List ℕ → List ℕ → CommandLine
  Generate : ℕ → CommandLine

-- the number of pumps of a generated model: a count from 1 to 1,000
abbrev pub in_bounds : ℕ → Option ℕ
in_bounds pumps = if nat_le 1 pumps && nat_le pumps 1000 then Some pumps else None

abbrev pub pumps_of : List ℕ → Option ℕ
pumps_of text = option_and_then in_bounds (count_of text)

-- the command of a word and one more
abbrev pub with_one : List ℕ → List ℕ → Option CommandLine
with_one word next =
    if bytes_eq word (codes "check") then Some (Check next)
    else (if bytes_eq word (codes "tables") then Some (Tables next)
    else (if bytes_eq word (codes "gen") then option_map Generate (pumps_of next) else None))

-- the command of a word and the names of two files
abbrev pub with_two : List ℕ → List ℕ → List ℕ → Option CommandLine
with_two word first second =
    if bytes_eq word (codes "replay") then Some (Replay first second)
    else (if bytes_eq word (codes "prove") then Some (Prove first second) else None)

-- the command of a word and the names of three files
abbrev pub with_three : List ℕ → List ℕ → List ℕ → List ℕ → Option CommandLine
with_three word first second third =
    if bytes_eq word (codes "verify") then Some (Verify first second third) else None

-- the command that these words are
abbrev pub command_of : List (List ℕ) → Option CommandLine
command_of [] = None
command_of (word ∷ []) = None
command_of (word ∷ input ∷ []) = with_one word input
command_of (word ∷ first ∷ second ∷ []) = with_two word first second
command_of (word ∷ first ∷ second ∷ third ∷ []) = with_three word first second third
command_of (word ∷ first ∷ second ∷ third ∷ more ∷ rest) = None

-- what is said of words that are no command
abbrev pub usage_text : List ℕ
usage_text =
    codes "usage: check IN\n       tables IN\n       replay IN TRACE\n"
    ++ codes "       prove IN RANGES\n       verify IN RANGES REPORT\n       gen N\n"

-- what the files of a command are, in the order of their slots
abbrev pub roles_of : CommandLine → List Role
roles_of (Check input) = check_roles
roles_of (Tables input) = tables_roles
roles_of (Replay input trace) = replay_roles
roles_of (Prove input ranges) = prove_roles
roles_of (Verify input ranges report) = verify_roles
roles_of (Generate pumps) = gen_roles

-- What a command comes to, where these are the verdicts of the questions that it asks: `prove`
-- alone asks some.
abbrev pub outcome : (List ℕ → Option (List ℕ)) → List Verdict → CommandLine → Option Outcome
outcome held verdicts (Check input) = check_outcome held input
outcome held verdicts (Tables input) = tables_outcome held input
outcome held verdicts (Replay input trace) = replay_outcome held input trace
outcome held verdicts (Prove input ranges) = prove_outcome held input ranges verdicts
outcome held verdicts (Verify input ranges report) = verify_outcome held input ranges report
outcome held verdicts (Generate pumps) = gen_outcome pumps

-- the same of the words of a run
abbrev pub roles_of_words : Option CommandLine → List Role
roles_of_words None = []
roles_of_words (Some command) = roles_of command

abbrev pub outcome_of_words : (List ℕ → Option (List ℕ)) → List Verdict → Option CommandLine
    → Option Outcome
outcome_of_words held verdicts None = Some (usage_outcome usage_text)
outcome_of_words held verdicts (Some command) = outcome held verdicts command
