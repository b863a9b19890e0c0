use Rattle.box_eval.proofs.TableFacts.{candidate_held}
use Rattle.box_eval.proofs.limit.branch_safe.Goals as goal

pub stays_within-requires-clause-held : goal.stays_within-requires-clause-held
stays_within-requires-clause-held c =
    candidate_held c.args.tables.now c.args.rules.now.rules c.args.number c.args.branch
    c.args.limit.now.link c.in-Some.action.now c.requires.tables c.in-Some.ensures.value
