-- The commands on an input file alone or with a trace, by their words, and what each comes to, over
-- what is held under the names of files.
use Rattle.std.specs.Prelude.{ℕ, if◌then◌else◌, List, [], ◌∷◌, codes, Option, None, Some}
use Rattle.std.specs.Str.{bytes_eq}
use Rattle.command_outputs.specs.Outcomes.{Outcome}
use Rattle.command_outputs.specs.declared.role.Role.{Role}
use Rattle.input_check.specs.Checks.{check_roles, check_outcome}
use Rattle.project_commands.specs.Replays.{replay_roles, replay_outcome}
use Rattle.project_commands.specs.Tables.{tables_roles, tables_outcome}

-- a command with the names of its files
pub data ProjectLine : Type 0 where
  Check : List ℕ → ProjectLine
  Tables : List ℕ → ProjectLine
  Replay : List ℕ → List ℕ → ProjectLine

-- the command of a word and the name of an input file
abbrev pub with_input : List ℕ → List ℕ → Option ProjectLine
with_input word input =
    if bytes_eq word (codes "check") then Some (Check input)
    else (if bytes_eq word (codes "tables") then Some (Tables input) else None)

-- the command of a word and the names of two files
abbrev pub with_two : List ℕ → List ℕ → List ℕ → Option ProjectLine
with_two word first second =
    if bytes_eq word (codes "replay") then Some (Replay first second) else None

-- the command that these words are
abbrev pub project_line_of : List (List ℕ) → Option ProjectLine
project_line_of [] = None
project_line_of (word ∷ []) = None
project_line_of (word ∷ input ∷ []) = with_input word input
project_line_of (word ∷ first ∷ second ∷ []) = with_two word first second
project_line_of (word ∷ first ∷ second ∷ third ∷ rest) = None

-- what the files of a command are, in the order of their slots
abbrev pub roles_of : ProjectLine → List Role
roles_of (Check input) = check_roles
roles_of (Tables input) = tables_roles
roles_of (Replay input trace) = replay_roles

-- what a command comes to
abbrev pub outcome : (List ℕ → Option (List ℕ)) → ProjectLine → Option Outcome
outcome held (Check input) = check_outcome held input
outcome held (Tables input) = tables_outcome held input
outcome held (Replay input trace) = replay_outcome held input trace

-- the same of the words of a run; words that are none of these commands come to nothing
abbrev pub roles_of_words : Option ProjectLine → List Role
roles_of_words None = []
roles_of_words (Some line) = roles_of line

abbrev pub outcome_of_words : (List ℕ → Option (List ℕ)) → Option ProjectLine → Option Outcome
outcome_of_words held None = None
outcome_of_words held (Some line) = outcome held line
