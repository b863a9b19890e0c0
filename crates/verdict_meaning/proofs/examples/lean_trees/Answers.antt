-- The definitions compute the examples.
use Rattle.std.proofs.Common.{refl, ◌∙◌}
use Rattle.rule_meaning.specs.Examples.{number, no_tables}
use Rattle.verdict_meaning.specs.declared.cert.Reason.TheVariants.{Whole}
use Rattle.verdict_meaning.specs.declared.question.Question.TheVariants.{Conflict}
use Rattle.verdict_meaning.specs.Examples.{fact, gate_rules, gate_ranges, no_facts, two_facts}
use Rattle.verdict_meaning.proofs.ExampleWords.{example_words}
use Rattle.verdict_meaning.proofs.TreeExamples.{gate_lean}
use Rattle.verdict_meaning.proofs.examples.lean_trees.Goals as goal

pub returns-clause-lean : goal.returns-clause-lean
unfolding example_words
returns-clause-lean c =
    gate_lean gate_rules no_tables gate_ranges (Conflict 0 2 0) (number 100) (fact 0) (fact 0) (fact 0) (fact 0)
    (fact 2)
    ∙ refl

pub returns-clause-without_facts : goal.returns-clause-without_facts
unfolding example_words
returns-clause-without_facts c =
    gate_lean gate_rules no_tables gate_ranges (Conflict 0 2 0) (number 100) Whole (fact 0) (fact 0) (fact 0)
    (fact 2)
    ∙ refl

pub returns-clause-spare_fact : goal.returns-clause-spare_fact
unfolding example_words
returns-clause-spare_fact c =
    gate_lean gate_rules no_tables gate_ranges (Conflict 0 2 0) (number 100) (fact 0) (fact 0) (fact 0) (fact 0)
    two_facts
    ∙ refl

pub returns-clause-shown_split : goal.returns-clause-shown_split
unfolding example_words
returns-clause-shown_split c =
    gate_lean gate_rules no_tables gate_ranges (Conflict 0 0 0) (number 100) no_facts no_facts no_facts no_facts
    no_facts
    ∙ refl
