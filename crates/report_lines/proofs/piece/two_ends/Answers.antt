use Rattle.std.proofs.Common.{◌∙◌, ◌∷◌, ap}
use Rattle.std.specs.Prelude.{option_map}
use Rattle.report_lines.specs.internal.Views.{parts_behind}
use Rattle.report_lines.proofs.LineSteps.{three_parts}
use Rattle.report_lines.proofs.piece.two_ends.Goals as goal

pub returns-in-Some : goal.returns-in-Some
returns-in-Some c =
    three_parts c.args.low.now c.next_part-high.result.part.now c.in-Some.field-0.now _
    (c.next_part-high.ensures
    ∙ ap (λ o. c.next_part-high.result.part.now ∷ parts_behind 44 (option_map (λ rest. rest.now) o))
    c.in-Some.is)
