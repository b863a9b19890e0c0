-- The definitions compute the examples.
use Rattle.std.proofs.Common.{refl, ◌∙◌}
use Rattle.exact_fraction.specs.Number.{zero}
use Rattle.rule_meaning.specs.Examples.{number, decimal, no_tables}
use Rattle.verdict_meaning.specs.declared.cert.Reason.TheVariants.{Whole}
use Rattle.verdict_meaning.specs.declared.question.Question.TheVariants.{Conflict, Dead, Limit}
use Rattle.verdict_meaning.specs.Examples.{fact, gate_rules, gate_ranges}
use Rattle.verdict_meaning.proofs.ExampleWords.{example_words}
use Rattle.verdict_meaning.proofs.TreeExamples.{gate_checked, leaf_checked}
use Rattle.verdict_meaning.proofs.examples.certificates.Goals as goal

pub returns-clause-conflict : goal.returns-clause-conflict
unfolding example_words
returns-clause-conflict c =
    gate_checked gate_rules no_tables gate_ranges (Conflict 0 2 0)
    (number 100) Whole Whole Whole Whole Whole
    ∙ refl

pub returns-clause-dead : goal.returns-clause-dead
unfolding example_words
returns-clause-dead c =
    gate_checked gate_rules no_tables gate_ranges (Dead 1)
    (number 200) Whole Whole Whole Whole Whole
    ∙ refl

pub returns-clause-limit : goal.returns-clause-limit
unfolding example_words
returns-clause-limit c =
    gate_checked gate_rules no_tables gate_ranges (Limit 0 zero (decimal 3 5))
    (number 200) Whole Whole Whole Whole Whole
    ∙ refl

pub returns-clause-early_cut : goal.returns-clause-early_cut
unfolding example_words
returns-clause-early_cut c =
    gate_checked gate_rules no_tables gate_ranges (Conflict 0 2 0)
    (number 90) Whole Whole Whole Whole Whole
    ∙ refl

pub returns-clause-first_leaf : goal.returns-clause-first_leaf
unfolding example_words
returns-clause-first_leaf c =
    leaf_checked gate_rules no_tables gate_ranges (Conflict 0 1 0) Whole
    ∙ refl

pub returns-clause-past_the_end : goal.returns-clause-past_the_end
unfolding example_words
returns-clause-past_the_end c =
    gate_checked gate_rules no_tables gate_ranges (Conflict 0 2 0)
    (number 301) Whole Whole Whole Whole Whole
    ∙ refl
