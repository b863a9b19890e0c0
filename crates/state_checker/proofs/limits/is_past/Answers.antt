use Rattle.std.proofs.Common.{◌∙◌, ap, sym}
use Rattle.rule_meaning.specs.Premise.{listed_among}
use Rattle.priority_settle.specs.Settling.{settled_each}
use Rattle.verdict_meaning.specs.Questions.{asked_numbers}
use Rattle.state_checker.proofs.SettledSteps.{settled_asked}
use Rattle.state_checker.proofs.limits.is_past.Goals as goal

pub leads_outside-requires-clause-asked : goal.leads_outside-requires-clause-asked
leads_outside-requires-clause-asked c =
    settled_asked c.args.rules.now c.args.question.now c.args.state.now c.args.link c.in-Some.at
    (sym (c.in-Some.ensures.value (listed_among (asked_numbers c.args.rules.now c.args.question.now) c.args.rules.now c.args.state.now)
    (c.as_slice-2.ensures.value ∙ c.in_ok-firsts.ensures.settled
    ∙ ap (settled_each c.args.rules.now.rules c.args.rules.now.controlled) (c.as_slice.ensures.value ∙ c.in_ok-listed.ensures.pairs))))
