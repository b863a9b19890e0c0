use Rattle.std.proofs.Common.{◌∙◌, ap, sym}
use Rattle.std.specs.Prelude.{option_map}
use Rattle.report_lines.specs.TreeLines.{is_fact_line}
use Rattle.report_lines.specs.internal.Views.{parts_behind}
use Rattle.report_lines.proofs.LineSteps.{first_part}
use Rattle.report_lines.proofs.fact.is_fact_line.Goals as goal

pub returns-in-Some : goal.returns-in-Some
returns-in-Some c =
    c.is_word.ensures
    ∙ first_part c.in-Some.text.now c.next_part.result.part.now
    (parts_behind 32 (option_map (λ rest. rest.now) c.next_part.result.behind)) c.next_part.ensures
    ∙ ap (λ line. is_fact_line (option_map (λ text. text.now) line)) (sym c.in-Some.is)
