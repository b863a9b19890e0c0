-- What the clauses of a run say where its words are those of `replay` over two files that are held.
use Rattle.std.proofs.Common.{◌≡◌, ℕ, List, [], ◌∷◌, Option, Some, IfSome, subst, codes}
use Rattle.command_outputs.specs.Outcomes.{Outcome, stage, input_file}
use Rattle.command_outputs.specs.declared.role.Role.{Role}
use Rattle.input_check.specs.InputRefusals.{project_judged}
use Rattle.project_commands.specs.Replays.{replay_printed, replay_roles}
use Rattle.streamed_lines.specs.Streams.{stream}
use Rattle.swmm_rules.specs.Commands.{command_of, outcome_of_words, roles_of_words}
use Rattle.verdict_meaning.specs.declared.verdict.Verdict.{Verdict}
use Rattle.replay_memory.specs.InMemory.{replay_of_bytes}

abbrev Words : Type 0
Words = List (List ℕ)

abbrev Held : Type 0
Held = List ℕ → Option (List ℕ)

abbrev replay_words : Words
replay_words = codes "replay" ∷ codes "a" ∷ codes "b" ∷ []

-- the outcome of these words is that of the two files
pub outcome_of_replay : (held : Held) (verdicts : List Verdict) (words : Words)
    (input trace : List ℕ) (P : Outcome → Type 0) → words ≡ replay_words
    → held (codes "a") ≡ Some input → held (codes "b") ≡ Some trace
    → IfSome (outcome_of_words held verdicts (command_of words)) P
    → IfSome (replay_of_bytes input trace) P
outcome_of_replay held verdicts words input trace P is first second known =
    let Q : Words → Type 0 = λ w. IfSome (outcome_of_words held verdicts (command_of w)) P in
    let R : Option (List ℕ) → Type 0 = λ h.
    IfSome (stage input_file project_judged (λ p. stream (replay_printed p) (held (codes "b"))) h) P in
    let S : Option (List ℕ) → Type 0 = λ h.
    IfSome (stage input_file project_judged (λ p. stream (replay_printed p) h) (Some input)) P in
    subst S second (subst R first (subst Q is known))

-- the roles of these words are those of `replay`
pub roles_of_replay : (words : Words) (P : List Role → Type 0) → words ≡ replay_words
    → P (roles_of_words (command_of words)) → P replay_roles
roles_of_replay words P is known =
    let Q : Words → Type 0 = λ w. P (roles_of_words (command_of w)) in subst Q is known
