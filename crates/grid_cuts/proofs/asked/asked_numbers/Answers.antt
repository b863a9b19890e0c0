use Rattle.verdict_meaning.specs.Questions.{is_asked}
use Rattle.grid_cuts.proofs.AskedSteps.{asked_more}
use Rattle.grid_cuts.proofs.asked.asked_numbers.Goals as goal

pub loop-number-preserved : goal.loop-number-preserved
loop-number-preserved c =
    asked_more (is_asked c.args.rules.now c.args.question.now) c.loop-number.number _ _
    c.loop-number.invariant c.in_ok-add_asked.ensures.adds
