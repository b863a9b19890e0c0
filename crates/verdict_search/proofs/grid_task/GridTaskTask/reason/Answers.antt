use Rattle.verdict_search.proofs.Leaves.{accepted}
use Rattle.verdict_search.proofs.grid_task.GridTaskTask.reason.Goals as goal

pub returns : goal.returns
returns c =
    let task = c.args.self.now in
    record {
      accepted =
          accepted task.rules.now task.tables.now task.question.now task.grid.now
          c.args.block.now c.in_ok-cell.cell c.facts_of.result c.in_ok-cell.ensures.value
          c.facts_of.ensures.accepted c.facts_of.ensures.lean;
    }
