use Rattle.std.proofs.Common.{Some, true, false, sym, ap, ◌∙◌}
use Rattle.block_search.proofs.Searching.{event_found, lows_within, open_cell_found}
use Rattle.block_search.proofs.search.one_cell.Goals as goal

pub has_event-requires-clause-within : goal.has_event-requires-clause-within
has_event-requires-clause-within g c =
    lows_within (g.T.Task.judged c.args.task.now) c.args.block.now c.deref.result.now
    c.requires.some c.requires.one (c.deref.ensures.value ∙ c.in_ok-cell.ensures.value)
    c.requires.within

pub returns-then-found : goal.returns-then-found
returns-then-found g c = record {
  found =
      event_found (g.T.Task.judged c.args.task.now) c.args.block.now c.in_ok-cell.cell.items true
      c.requires.some c.requires.one c.in_ok-cell.ensures.value
      (sym c.if-found.true
      ∙ c.in_ok-found.ensures.value
      ∙ ap (g.T.Task.judged c.args.task.now).event c.deref.ensures.value)
      ∙ ap Some (sym c.from_vec.ensures.value);
}

pub returns : goal.returns
returns g c = record {
  found =
      open_cell_found (g.T.Task.judged c.args.task.now) c.args.block.now c.in_ok-cell.cell.items
      c.requires.some c.requires.one c.in_ok-cell.ensures.value
      (sym c.if-found.false
      ∙ c.in_ok-found.ensures.value
      ∙ ap (g.T.Task.judged c.args.task.now).event c.deref.ensures.value)
      c.requires.open_cell;
}
