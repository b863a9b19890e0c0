use Rattle.leaf_facts.proofs.AllFacts.{facts_more}
use Rattle.leaf_facts.proofs.told.facts_in.Goals as goal

pub loop-number-preserved : goal.loop-number-preserved
loop-number-preserved c =
    facts_more c.args.rules.now c.args.question.now c.args.cell.now c.loop-number.number _ _
    c.loop-number.invariant c.in_ok-add_fact.ensures.adds
