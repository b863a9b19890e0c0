use Rattle.std.proofs.Common.{◌≤◌, ◌≤ℤ◌, subst, sym}
use Rattle.std.proofs.lemmas.Result.{IfOk-weaker, MatchResult-weaker}
use Rattle.std.specs.Prelude.{All, IfSome}
use Rattle.verdict_meaning.specs.FitRanges.{AreEnds}
use Rattle.verdict_meaning.specs.Grids.{cell_count}
use Rattle.verdict_meaning.specs.Verdicts.{most_cells}
use Rattle.verdict_meaning.specs.declared.cell.Cell.{Cell}
use Rattle.grid_cuts.specs.internal.Gridded.{IsGridIn}
use Rattle.grid_cuts.proofs.RangeEnds.{box_end, box_ends, box_order, cell_few}
use Rattle.grid_cuts.proofs.grids.grid_of.Goals as goal

pub grid_in-requires-clause-ends : goal.grid_in-requires-clause-ends
grid_in-requires-clause-ends c =
    subst (λ (cell : Cell). All (λ entry. AreEnds entry.1.low entry.1.high) cell.keys)
    (sym c.in_ok-cell.ensures.value)
    (box_ends c.args.rules.now c.args.question.now c.args.ranges.now c.requires.ranges)

pub grid_in-requires-clause-moments : goal.grid_in-requires-clause-moments
grid_in-requires-clause-moments c =
    subst (λ (cell : Cell). IfSome cell.moments (λ span. span.0 ≤ℤ span.1))
    (sym c.in_ok-cell.ensures.value)
    (box_order c.args.rules.now c.args.question.now c.args.ranges.now c.requires.ranges)

pub returns-clause-few : goal.returns-clause-few
returns-clause-few c =
    let x = c.args.rules.now in
    let question = c.args.question.now in
    let ranges = c.args.ranges.now in
    let cell = c.in_ok-cell.cell in
    IfOk-weaker c.grid_in.result (IsGridIn x question cell)
    (λ grid. cell_count x question ranges ≤ most_cells)
    (λ grid is. cell_few x question ranges cell c.in_ok-cell.ensures.value is.few)
    c.grid_in.ensures.grid

pub returns-clause-end : goal.returns-clause-end
returns-clause-end c =
    MatchResult-weaker c.grid_in.result c.grid_in.ensures.end (λ grid t. t)
    (λ end at.
    box_end c.args.rules.now c.args.question.now c.args.ranges.now c.in_ok-cell.cell end
    c.in_ok-cell.ensures.value at)
