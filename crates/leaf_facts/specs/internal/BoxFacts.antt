-- What a box tells of the premises of a question's rules, as facts.
use Rattle.std.specs.Prelude.{ℕ, Bool, true, false, if◌then◌else◌, List, [], ◌∷◌}
use Rattle.std.specs.List.{flat_map}
use Rattle.rule_types.specs.declared.rules.Rules.{Rules}
use Rattle.verdict_meaning.specs.declared.cell.Cell.{Cell}
use Rattle.verdict_meaning.specs.declared.question.Question.{Question}
use Rattle.verdict_meaning.specs.declared.truth.Truth.{Truth}
use Rattle.verdict_meaning.specs.declared.truth.Truth.TheVariants.{Yes, No, Open}
use Rattle.verdict_meaning.specs.Premises.{rule_truth}
use Rattle.verdict_meaning.specs.Questions.{all_numbers, is_asked}

-- the fact that tells what is known of the premise of a rule, if anything is
abbrev pub told_fact : ℕ → Truth → List (ℕ × Bool)
told_fact number Yes = (number, true) ∷ []
told_fact number No = (number, false) ∷ []
told_fact number Open = []

-- the fact that a box tells of a rule, where it is the question's
unfoldable pub fact_on : Rules → Question → Cell → ℕ → List (ℕ × Bool)
fact_on x question cell number =
    if is_asked x question number then told_fact number (rule_truth x cell number) else []

-- all facts that a box tells, in the order of the rules
unfoldable pub facts_in : Rules → Question → Cell → List (ℕ × Bool)
facts_in x question cell = flat_map (fact_on x question cell) (all_numbers x)
