use Rattle.grid_blocks.proofs.PublicLaws.{orders-grid}
use Rattle.verdict_search.proofs.deciding.decide.Goals as goal

pub search_grid-requires-clause-ready : goal.search_grid-requires-clause-ready
search_grid-requires-clause-ready c = record {
  formed = c.requires.formed;
  tables_held = c.requires.tables;
  closed = c.requires.closed;
  grid_is = c.in-Ok.ensures.grid;
  in_order =
      orders-grid c.args.rules.now c.args.question.now c.args.ranges.now c.in-Ok.grid
      c.in-Ok.ensures.grid;
  short = c.in-Ok.ensures.short;
}

pub returns-in-Err : goal.returns-in-Err
returns-in-Err c = record {
  verdict =
      c.without_grid.ensures.verdict c.args.rules.now c.args.tables.now c.args.ranges.now
      c.args.question.now c.in-Err.ensures.end;
}
