use Rattle.std.proofs.Common.{◌≡◌, ◌++◌}
use Rattle.rule_meaning.specs.Premise.{listed_among}
use Rattle.rule_meaning.specs.SomeRules.{is_among}
use Rattle.verdict_meaning.specs.Questions.{asked_numbers}
use Rattle.state_checker.proofs.ListSteps.{branches, passing}
use Rattle.state_checker.proofs.lists.listed_pairs.Given as goal

abbrev pub invariant-loop-number : goal.invariant-loop-number
invariant-loop-number l =
    l.pairs.items
    ++ passing (is_among (asked_numbers l.rules l.question)) (branches l.rules l.state) l.number l.rules.rules
    ≡ listed_among (asked_numbers l.rules l.question) l.rules l.state
