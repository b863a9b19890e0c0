use Rattle.grid_trees.specs.GridJudgements.{judgement_of}
use Rattle.verdict_search.proofs.Decided.{has_pieces}
use Rattle.verdict_search.proofs.grid_task.GridTaskTask.has_event.Goals as goal

pub sample_at-requires-clause-pieces : goal.sample_at-requires-clause-pieces
unfolding judgement_of
sample_at-requires-clause-pieces c =
    let task = c.args.self.now in
    has_pieces task.rules.now task.tables.now task.question.now task.ranges.now task.grid.now
    c.args.cell.now c.requires.ready c.requires.within
