use Rattle.std.proofs.Common.{sym, ap, subst, ◌∙◌}
use Rattle.block_search.specs.Blocks.{block_of, IsWithin}
use Rattle.verdict_meaning.specs.Grids.{sample_of}
use Rattle.grid_blocks.specs.GridBoxes.{cell_of, lengths}
use Rattle.verdict_search.proofs.Decided.{decided, depth_fits, has_pieces, holds, open_cell}
use Rattle.verdict_search.proofs.Decided.{open_within, refuted, refuted_within, sampled}
use Rattle.verdict_search.proofs.deciding.verdict_of.Goals as goal

pub cert_of-requires : goal.cert_of-requires
cert_of-requires c =
    let task = c.args.task.now in
    record {
      depth =
          depth_fits task.rules.now task.tables.now task.question.now task.ranges.now
          task.grid.now c.in-Holds.tree
          (decided task.rules.now task.tables.now task.question.now task.ranges.now task.grid.now
          c.args.decision _ c.requires.ready c.requires.few c.requires.decision c.in-Holds.is);
    }

pub returns-in_ok-cert-in-Holds : goal.returns-in_ok-cert-in-Holds
returns-in_ok-cert-in-Holds c =
    let task = c.args.task.now in
    record {
      verdict =
          holds task.rules.now task.tables.now task.question.now task.ranges.now task.grid.now
          c.in-Holds.tree c.in_ok-cert-in-Holds.cert
          (decided task.rules.now task.tables.now task.question.now task.ranges.now task.grid.now
          c.args.decision _ c.requires.ready c.requires.few c.requires.decision c.in-Holds.is)
          c.in_ok-cert-in-Holds.ensures.value;
    }

pub sample_at-requires-clause-within : goal.sample_at-requires-clause-within
sample_at-requires-clause-within c =
    let task = c.args.task.now in
    subst (λ cell. IsWithin (lengths task.grid.now) (block_of cell)) (sym c.as_slice.ensures.value)
    (refuted_within task.rules.now task.tables.now task.question.now task.ranges.now
    task.grid.now c.in-Refuted.cell
    (decided task.rules.now task.tables.now task.question.now task.ranges.now task.grid.now
    c.args.decision _ c.requires.ready c.requires.few c.requires.decision c.in-Refuted.is))

pub sample_at-requires-clause-pieces : goal.sample_at-requires-clause-pieces
sample_at-requires-clause-pieces c =
    let task = c.args.task.now in
    has_pieces task.rules.now task.tables.now task.question.now task.ranges.now task.grid.now
    c.as_slice.result.now c.requires.ready (sample_at-requires-clause-within c)

pub unreachable-requires : goal.unreachable-requires
unreachable-requires c =
    let task = c.args.task.now in
    sampled task.rules.now task.tables.now task.question.now task.ranges.now task.grid.now
    c.in-Refuted.cell
    (decided task.rules.now task.tables.now task.question.now task.ranges.now task.grid.now
    c.args.decision _ c.requires.ready c.requires.few c.requires.decision c.in-Refuted.is)
    (sym c.in_default.is ∙ c.in_ok-sample-in-Refuted.ensures.value
    ∙ ap (λ cell. sample_of task.rules.now (cell_of task.grid.now cell)) c.as_slice.ensures.value)

pub returns-in-Some : goal.returns-in-Some
returns-in-Some c =
    let task = c.args.task.now in
    record {
      verdict =
          refuted task.rules.now task.tables.now task.question.now task.ranges.now task.grid.now
          c.in-Refuted.cell c.in-Some.state
          (decided task.rules.now task.tables.now task.question.now task.ranges.now task.grid.now
          c.args.decision _ c.requires.ready c.requires.few c.requires.decision c.in-Refuted.is)
          (sym c.in-Some.is ∙ c.in_ok-sample-in-Refuted.ensures.value
          ∙ ap (λ cell. sample_of task.rules.now (cell_of task.grid.now cell))
          c.as_slice.ensures.value);
    }

pub cell_of-requires-clause-within : goal.cell_of-requires-clause-within
cell_of-requires-clause-within c =
    let task = c.args.task.now in
    subst (λ cell. IsWithin (lengths task.grid.now) (block_of cell))
    (sym c.as_slice-in-Cell.ensures.value)
    (open_within task.rules.now task.tables.now task.question.now task.ranges.now task.grid.now
    c.in-Cell.cell
    (decided task.rules.now task.tables.now task.question.now task.ranges.now task.grid.now
    c.args.decision _ c.requires.ready c.requires.few c.requires.decision c.in-Cell.is))

pub returns-in_ok-open-in-Cell : goal.returns-in_ok-open-in-Cell
returns-in_ok-open-in-Cell c =
    let task = c.args.task.now in
    record {
      verdict =
          open_cell task.rules.now task.tables.now task.question.now task.ranges.now task.grid.now
          c.in-Cell.cell c.in_ok-open-in-Cell.open
          (decided task.rules.now task.tables.now task.question.now task.ranges.now task.grid.now
          c.args.decision _ c.requires.ready c.requires.few c.requires.decision c.in-Cell.is)
          (c.in_ok-open-in-Cell.ensures.value
          ∙ ap (cell_of task.grid.now) c.as_slice-in-Cell.ensures.value);
    }
