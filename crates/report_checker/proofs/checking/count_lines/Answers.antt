use Rattle.std.proofs.Common.{◌≡◌, ◌<◌, Some, length, sym, ap, ◌∙◌, arith}
use Rattle.std.proofs.lemmas.Option.{slice_get_within}
use Rattle.std.specs.Prelude.{option_map, slice_get}
use Rattle.inp_text.specs.LineList.{line_of}
use Rattle.report_checker.proofs.JudgedSteps.{counted}
use Rattle.report_checker.proofs.checking.count_lines.Goals as goal

pub returns-in_default : goal.returns-in_default
returns-in_default c =
    counted c.args.lines.now c.loop-at.at c.loop-at.invariant
    (sym (ap (option_map line_of) c.in_default.is) ∙ c.get.ensures.value)

pub loop-at-preserved : goal.loop-at-preserved
loop-at-preserved c =
    let some : Some (line_of c.in-Some._line) ≡ slice_get c.args.lines.now c.loop-at.at =
    sym (ap (option_map line_of) c.in-Some.is) ∙ c.get.ensures.value in
    let within : c.loop-at.at < length c.args.lines.now =
    slice_get_within c.args.lines.now c.loop-at.at (line_of c.in-Some._line) (sym some) in
    omega (arith, within)
