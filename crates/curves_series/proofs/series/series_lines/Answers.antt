use Rattle.std.proofs.Common.{ap, sym, ◌∙◌}
use Rattle.curves_series.specs.Series.{series_lines, points_before}
use Rattle.curves_series.proofs.LineSteps.{lines_at, lines_end, series_goes_on, series_stops, series_ends}
use Rattle.curves_series.proofs.series.series_lines.Goals as goal

pub returns-in-Some : goal.returns-in-Some
returns-in-Some c =
    let l = c.loop-line in
    let s = l.series in
    let name = c.args.name.now in
    let here = lines_at c.args.lines.now l.line-index c.line-item.result c.loop-line-test.true c.line-item.is in
    let told = rw c.in-Some.is at c.in_ok-refusal.ensures.value in
    record {
      value =
          sym l.invariant.0
          ∙ ap (λ lines. points_before s.so_far.points.items (series_lines name s.axis s.so_far.last lines)) here
          ∙ series_stops name s.axis s.so_far.last c.line-item.result.now _ s.so_far.points.items c.in-Some.refusal told;
    }

pub loop-line-preserved : goal.loop-line-preserved
loop-line-preserved c =
    let l = c.loop-line in
    let s = l.series in
    let name = c.args.name.now in
    let here = lines_at c.args.lines.now l.line-index c.line-item.result c.loop-line-test.true c.line-item.is in
    let taken = rw c.in-None.is at c.in_ok-refusal.ensures.value in (
      series_goes_on name s.axis _ s.so_far.last c.line-item.result.now _ s.so_far.points.items _ _ taken
          ∙ sym (ap (λ lines. points_before s.so_far.points.items (series_lines name s.axis s.so_far.last lines)) here)
          ∙ l.invariant.0,
      c.take_line.ensures.axis,
    )

pub returns : goal.returns
returns c =
    let l = c.loop-line in
    let s = l.series in
    let name = c.args.name.now in
    let last = lines_end c.args.lines.now l.line-index c.loop-line-test.false in
    record {
      value =
          sym l.invariant.0
          ∙ ap (λ lines. points_before s.so_far.points.items (series_lines name s.axis s.so_far.last lines)) last
          ∙ series_ends name s.axis s.so_far.last s.so_far.points.items;
    }
