-- The questions of a ranges file that asks none: whether each rule is dead, and whether two rules
-- conflict on each link on which both act.
use Rattle.std.specs.Prelude.{ℕ, ◌+◌, List, [], ◌∷◌, ◌++◌, map, filter}
use Rattle.rule_types.specs.Reading.{links_acted}
use Rattle.rule_types.specs.declared.rule.Rule.{Rule}
use Rattle.verdict_meaning.specs.declared.question.Question.{Question}
use Rattle.verdict_meaning.specs.declared.question.Question.TheVariants.{Conflict, Dead}
use Rattle.range_lines.specs.Entries.{in_link_order, is_among}

-- the links that a rule acts on, in link order
abbrev pub rule_links : Rule → List ℕ
rule_links rule = in_link_order [] (links_acted (rule ∷ []))

-- of these links, in their order, those that are among others
abbrev pub shared_links : List ℕ → List ℕ → List ℕ
shared_links links others = filter (λ link. is_among link others) links

-- whether rules are dead, of which the first has this number
unfoldable pub dead_questions : ℕ → List Rule → List Question
dead_questions number [] = []
dead_questions number (rule ∷ more) = Dead number ∷ dead_questions (number + 1) more

-- whether a rule that acts on these links conflicts with later rules, of which the first has this
-- number
unfoldable pub conflicts_with : ℕ → List ℕ → ℕ → List (List ℕ) → List Question
conflicts_with rule links number [] = []
conflicts_with rule links number (others ∷ more) =
    map (Conflict rule number) (shared_links links others)
    ++ conflicts_with rule links (number + 1) more

-- whether each two of rules that act on these links conflict, of which the first has this number
unfoldable pub conflicts_among : ℕ → List (List ℕ) → List Question
conflicts_among number [] = []
conflicts_among number (links ∷ more) =
    conflicts_with number links (number + 1) more ++ conflicts_among (number + 1) more

unfoldable pub all_questions : List Rule → List Question
all_questions rules = dead_questions 0 rules ++ conflicts_among 0 (map rule_links rules)
