-- The definitions compute the examples.
use Rattle.std.proofs.Common.{refl, ◌∙◌}
use Rattle.exact_fraction.specs.Number.{zero}
use Rattle.rule_meaning.specs.Examples.{number, decimal, no_tables}
use Rattle.verdict_meaning.specs.declared.cert.Reason.TheVariants.{Whole}
use Rattle.verdict_meaning.specs.declared.question.Question.TheVariants.{Conflict, Dead, Limit}
use Rattle.verdict_meaning.specs.Examples.{fact, gate_rules, gate_ranges}
use Rattle.verdict_meaning.proofs.ExampleWords.{example_words}
use Rattle.verdict_meaning.proofs.TreeExamples.{gate_checked, leaf_checked}
use Rattle.verdict_meaning.proofs.examples.facts.Goals as goal

pub returns-clause-by_facts : goal.returns-clause-by_facts
unfolding example_words
returns-clause-by_facts c =
    gate_checked gate_rules no_tables gate_ranges (Conflict 0 2 0)
    (number 100) (fact 0) (fact 0) (fact 0) (fact 0) (fact 2)
    ∙ refl

pub returns-clause-unknown : goal.returns-clause-unknown
unfolding example_words
returns-clause-unknown c =
    gate_checked gate_rules no_tables gate_ranges (Conflict 0 2 0)
    (number 100) (fact 0) (fact 0) (fact 0) (fact 0) (fact 0)
    ∙ refl

pub returns-clause-not_asked : goal.returns-clause-not_asked
unfolding example_words
returns-clause-not_asked c =
    leaf_checked gate_rules no_tables gate_ranges (Conflict 0 2 0) (fact 1)
    ∙ refl
