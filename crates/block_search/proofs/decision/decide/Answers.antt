use Rattle.std.proofs.Common.{sym, subst, ◌∙◌}
use Rattle.block_search.specs.Outcomes.{IsFound}
use Rattle.block_search.proofs.Searching.{first_is, not_none}
use Rattle.block_search.proofs.decision.decide.Goals as goal

pub returns-in-Proved : goal.returns-in-Proved
returns-in-Proved g c = record {
  decision =
      subst (IsFound (g.T.Task.judged c.args.task.now) c.args.block.now) c.in-Proved.is
      c.in_ok-outcome.ensures.found;
}

pub returns-in-Event : goal.returns-in-Event
returns-in-Event g c = record {
  decision =
      subst (IsFound (g.T.Task.judged c.args.task.now) c.args.block.now) c.in-Event.is
      c.in_ok-outcome.ensures.found;
}

pub returns-in-Some : goal.returns-in-Some
returns-in-Some g c = record {
  decision =
      first_is (g.T.Task.judged c.args.task.now) c.args.block.now c.in-Some.cell
      (subst (IsFound (g.T.Task.judged c.args.task.now) c.args.block.now) c.in-Open.is
      c.in_ok-outcome.ensures.found)
      (sym c.in-Some.is ∙ c.in_ok-first-in-Open.ensures.first);
}

pub unreachable-requires : goal.unreachable-requires
unreachable-requires g c =
    not_none (g.T.Task.judged c.args.task.now) c.args.block.now
    (subst (IsFound (g.T.Task.judged c.args.task.now) c.args.block.now) c.in-Open.is
    c.in_ok-outcome.ensures.found)
    (sym c.in_default.is ∙ c.in_ok-first-in-Open.ensures.first)
