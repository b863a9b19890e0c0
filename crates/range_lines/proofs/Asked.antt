-- Questions, rule by rule.
use Rattle.std.proofs.Common.{◌≡◌, ℕ, ◌+◌, List, [], ◌∷◌, ◌++◌, drop, map, sym, ap, ◌∙◌, append_assoc}
use Rattle.rule_types.specs.declared.rule.Rule.{Rule}
use Rattle.verdict_meaning.specs.declared.question.Question.{Question}
use Rattle.verdict_meaning.specs.declared.question.Question.TheVariants.{Conflict, Dead}
use Rattle.range_lines.specs.Questions.{dead_questions, conflicts_with, conflicts_among, shared_links}

pub dead_step : (asked : List Question) (number : ℕ) (rules later : List Rule) (rule : Rule)
    → drop number rules ≡ rule ∷ later
    → (asked ++ Dead number ∷ []) ++ dead_questions (number + 1) later
    ≡ asked ++ dead_questions number (drop number rules)
unfolding dead_questions
dead_step asked number rules later rule here =
    append_assoc asked (Dead number ∷ []) (dead_questions (number + 1) later)
    ∙ ap (λ l. asked ++ dead_questions number l) (sym here)

pub with_step : (asked : List Question) (rule number : ℕ) (links others : List ℕ)
    (sets later : List (List ℕ)) → drop number sets ≡ others ∷ later
    → (asked ++ map (Conflict rule number) (shared_links links others))
    ++ conflicts_with rule links (number + 1) later
    ≡ asked ++ conflicts_with rule links number (drop number sets)
unfolding conflicts_with
with_step asked rule number links others sets later here =
    append_assoc asked (map (Conflict rule number) (shared_links links others))
    (conflicts_with rule links (number + 1) later)
    ∙ ap (λ l. asked ++ conflicts_with rule links number l) (sym here)

pub among_step : (asked : List Question) (number : ℕ) (links : List ℕ) (sets later : List (List ℕ))
    → drop number sets ≡ links ∷ later
    → (asked ++ conflicts_with number links (number + 1) later)
    ++ conflicts_among (number + 1) later
    ≡ asked ++ conflicts_among number (drop number sets)
unfolding conflicts_among
among_step asked number links sets later here =
    append_assoc asked (conflicts_with number links (number + 1) later)
    (conflicts_among (number + 1) later)
    ∙ ap (λ l. asked ++ conflicts_among number l) (sym here)
