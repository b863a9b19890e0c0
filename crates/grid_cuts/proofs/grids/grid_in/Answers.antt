use Rattle.std.proofs.Common.{◌∙◌, subst}
use Rattle.std.proofs.lemmas.Result.{IfOk-weaker, MatchResult-weaker}
use Rattle.clock_values.proofs.PublicLaws.{steps-of_rules}
use Rattle.grid_cuts.specs.internal.Gridded.{AreAxesOf, IsGridIn, IsPut}
use Rattle.grid_cuts.proofs.WholeGrids.{put_end, put_grid}
use Rattle.grid_cuts.proofs.grids.grid_in.Goals as goal

pub axes_of-requires-clause-step : goal.axes_of-requires-clause-step
axes_of-requires-clause-step c = steps-of_rules c.args.rules.now c.requires.rules

pub returns-clause-grid : goal.returns-clause-grid
returns-clause-grid c =
    let x = c.args.rules.now in
    let question = c.args.question.now in
    let cell = c.args.cell.now in
    let axes = c.in_ok-axes.axes.items in
    let moments = c.in_ok-moments.moments in
    IfOk-weaker c.put_together.result (IsPut axes moments) (IsGridIn x question cell)
    (λ grid put.
    put_grid x question cell c.as_slice-3.result.now axes moments grid c.requires.ends
    c.requires.moments (c.as_slice-3.ensures.value ∙ c.in_ok-asked.ensures.value)
    (subst (λ entries. AreAxesOf x question entries axes) c.as_slice-2.ensures.value
    c.in_ok-axes.ensures.axes)
    c.in_ok-moments.ensures.moments put)
    c.put_together.ensures.grid

pub returns-clause-end : goal.returns-clause-end
returns-clause-end c =
    let x = c.args.rules.now in
    let question = c.args.question.now in
    let cell = c.args.cell.now in
    let axes = c.in_ok-axes.axes.items in
    let moments = c.in_ok-moments.moments in
    MatchResult-weaker c.put_together.result c.put_together.ensures.end (λ grid t. t)
    (λ end at.
    put_end x question cell c.as_slice-3.result.now axes moments end
    (c.as_slice-3.ensures.value ∙ c.in_ok-asked.ensures.value)
    (subst (λ entries. AreAxesOf x question entries axes) c.as_slice-2.ensures.value
    c.in_ok-axes.ensures.axes)
    c.in_ok-moments.ensures.moments at)
