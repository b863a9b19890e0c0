use Rattle.std.proofs.Common.{drop}
use Rattle.verdict_meaning.specs.Grids.{sample_links}
use Rattle.report_lines.proofs.StateSteps.{links_stop}
use Rattle.report_lines.proofs.state.links_of.Goals as goal

pub returns-in-empty : goal.returns-in-empty
returns-in-empty c =
    let values = c.args.values.now in
    let tracked = c.args.tracked.now in
    links_stop c.loop-link.links (sample_links values tracked c.args.settings.now) values
    (drop c.loop-link.link-index tracked) c.loop-link.left.now c.in-empty.len_below c.loop-link.invariant
