-- The command `check` by its words, and what it comes to, over what is held under the names of
-- files.
use Rattle.std.specs.Prelude.{ℕ, if◌then◌else◌, List, [], ◌∷◌, codes, Option, None, Some}
use Rattle.std.specs.Str.{bytes_eq}
use Rattle.command_outputs.specs.Outcomes.{Outcome}
use Rattle.command_outputs.specs.declared.role.Role.{Role}
use Rattle.input_check.specs.Checks.{check_roles, check_outcome}

-- the name of the file that a word and a name ask to check
abbrev pub with_input : List ℕ → List ℕ → Option (List ℕ)
with_input word input = if bytes_eq word (codes "check") then Some input else None

-- the name of the file that these words ask to check
abbrev pub input_of : List (List ℕ) → Option (List ℕ)
input_of [] = None
input_of (word ∷ []) = None
input_of (word ∷ input ∷ []) = with_input word input
input_of (word ∷ input ∷ more ∷ rest) = None

-- what the files of a run are, in the order of their slots; none where there is nothing to check
abbrev pub roles_of_words : Option (List ℕ) → List Role
roles_of_words None = []
roles_of_words (Some input) = check_roles

-- what a run comes to; nothing where there is nothing to check
abbrev pub outcome_of_words : (List ℕ → Option (List ℕ)) → Option (List ℕ) → Option Outcome
outcome_of_words held None = None
outcome_of_words held (Some input) = check_outcome held input
