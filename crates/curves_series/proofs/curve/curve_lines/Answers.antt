use Rattle.std.proofs.Common.{ap, sym, ◌∙◌}
use Rattle.curves_series.specs.Pairs.{before_later}
use Rattle.curves_series.specs.Curves.{curve_lines}
use Rattle.curves_series.proofs.LineSteps.{lines_at, lines_end, goes_on, stops, ends}
use Rattle.curves_series.proofs.curve.curve_lines.Goals as goal

pub returns-in-Some : goal.returns-in-Some
returns-in-Some c =
    let l = c.loop-line in
    let name = c.args.name.now in
    let here = lines_at c.args.lines.now l.line-index c.line-item.result c.loop-line-test.true c.line-item.is in
    let told = rw c.in-Some.is at c.in_ok-refusal.ensures.value in
    record {
      value =
          sym l.invariant
          ∙ ap (λ lines. before_later l.so_far.points.items (curve_lines name l.is_first c.args.pointed l.so_far.last lines)) here
          ∙ stops name l.is_first c.args.pointed l.so_far.last c.line-item.result.now _ l.so_far.points.items c.in-Some.refusal told;
    }

pub loop-line-preserved : goal.loop-line-preserved
loop-line-preserved c =
    let l = c.loop-line in
    let name = c.args.name.now in
    let here = lines_at c.args.lines.now l.line-index c.line-item.result c.loop-line-test.true c.line-item.is in
    let taken = rw c.in-None.is at c.in_ok-refusal.ensures.value in
    goes_on name l.is_first c.args.pointed l.so_far.last c.line-item.result.now _ l.so_far.points.items _ _ taken
    ∙ sym (ap (λ lines. before_later l.so_far.points.items (curve_lines name l.is_first c.args.pointed l.so_far.last lines)) here)
    ∙ l.invariant

pub returns : goal.returns
returns c =
    let l = c.loop-line in
    let name = c.args.name.now in
    let last = lines_end c.args.lines.now l.line-index c.loop-line-test.false in
    record {
      value =
          sym l.invariant
          ∙ ap (λ lines. before_later l.so_far.points.items (curve_lines name l.is_first c.args.pointed l.so_far.last lines)) last
          ∙ ends name l.is_first c.args.pointed l.so_far.last l.so_far.points.items;
    }
