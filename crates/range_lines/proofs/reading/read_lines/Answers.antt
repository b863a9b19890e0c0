use Rattle.std.proofs.Common.{Err, ap, sym, subst, ◌∙◌}
use Rattle.std.specs.Prelude.{option_map}
use Rattle.inp_text.specs.LineList.{line_of}
use Rattle.range_lines.specs.Causes.{Reads}
use Rattle.range_lines.specs.Lines.{lines_read, no_lines}
use Rattle.range_lines.specs.internal.Views.{known_now}
use Rattle.range_lines.proofs.LineSteps.{lines_end, lines_fault, lines_step}
use Rattle.range_lines.proofs.reading.read_lines.Goals as goal

pub returns-in_default : goal.returns-in_default
returns-in_default c =
    let known = known_now c.args.known in
    let lines = c.args.lines.now in
    lines_end known c.loop-at.given lines c.loop-at.at (lines_read known 1 no_lines lines)
    (sym (ap (option_map line_of) c.in_default.is) ∙ c.get.ensures.value)
    c.loop-at.invariant

pub returns-in-Err : goal.returns-in-Err
returns-in-Err c =
    let known = known_now c.args.known in
    let lines = c.args.lines.now in
    let due = lines_read known 1 no_lines lines in
    subst (λ end. Reads due (Err end)) (sym c.line_fault.ensures)
    (lines_fault known c.loop-at.given lines c.loop-at.at (line_of c.in-Some.line) due c.in-Err.cause
    (sym (ap (option_map line_of) c.in-Some.is) ∙ c.get.ensures.value)
    (sym c.in-Err.is ∙ c.in_ok-next.ensures) c.loop-at.invariant)

pub loop-at-preserved : goal.loop-at-preserved
loop-at-preserved c =
    let known = known_now c.args.known in
    let lines = c.args.lines.now in
    lines_step known c.loop-at.given c.in-Ok.next lines c.loop-at.at (line_of c.in-Some.line)
    (lines_read known 1 no_lines lines)
    (sym (ap (option_map line_of) c.in-Some.is) ∙ c.get.ensures.value)
    (sym c.in-Ok.is ∙ c.in_ok-next.ensures) c.loop-at.invariant
