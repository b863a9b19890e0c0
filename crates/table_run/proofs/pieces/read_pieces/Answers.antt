use Rattle.std.proofs.Common.{◌∙◌, None, get_or, sym, ap, subst, arith}
use Rattle.std.specs.Option.{option_map}
use Rattle.table_plan.specs.Pieces.{piece}
use Rattle.table_plan.specs.declared.plan_column.PlanColumn.{PlanColumn}
use Rattle.table_run.specs.Planned.{value_read}
use Rattle.table_run.specs.internal.Sources.{IsSource}
use Rattle.table_run.proofs.PieceValues.{source_at, sources_long, written, all_written, pieces_are}
use Rattle.table_run.proofs.pieces.read_pieces.Goals as goal

pub bounds-sources-at : goal.bounds-sources-at
bounds-sources-at c =
    let long = sources_long c.args.rules.now c.args.values.now.columns c.args.columns.now c.args.sources.now c.requires.sources in
    omega (arith, long, c.loop-at-test.true)

pub piece_read-piece-requires-clause-source : goal.piece_read-piece-requires-clause-source
piece_read-piece-requires-clause-source c =
    let one = c.index-columns-at.result in
    subst (λ (column : PlanColumn). IsSource c.args.rules.now c.args.values.now.columns column.side (get_or c.args.sources.now c.loop-at.at None)) (sym c.index-columns-at.is)
    (source_at c.args.rules.now c.args.values.now.columns c.args.columns.now c.args.sources.now c.loop-at.at one None c.requires.sources c.loop-at-test.true)

pub loop-at-preserved : goal.loop-at-preserved
loop-at-preserved c =
    let one = c.index-columns-at.result in
    written (λ (column : PlanColumn). option_map (piece column.cuts) (value_read c.args.rules.now c.args.state.now column.side)) c.args.columns.now
    c.args.pieces.now c.loop-at.pieces c.loop-at.at one c.piece_read-piece.result c.loop-at.invariant
    (c.piece_read-piece.ensures.piece ∙ ap (λ (column : PlanColumn). option_map (piece column.cuts) (value_read c.args.rules.now c.args.state.now column.side)) c.index-columns-at.is)
    c.loop-at-test.true c.requires.each

pub returns : goal.returns
returns c = record {
  pieces = pieces_are c.args.rules.now c.args.state.now c.args.columns.now c.loop-at.pieces
      (all_written (λ (column : PlanColumn). option_map (piece column.cuts) (value_read c.args.rules.now c.args.state.now column.side)) c.args.columns.now
      c.args.pieces.now c.loop-at.pieces c.loop-at.at c.loop-at.invariant c.loop-at-test.false c.requires.each);
}
