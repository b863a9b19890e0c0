use Rattle.std.proofs.Common.{◌∙◌, subst, sym}
use mathlib.Core.Path.{ap₂}
use Rattle.std.specs.Prelude.{IfOk}
use Rattle.rule_parser.specs.internal.Fitting.{IsDone}
use Rattle.rule_parser.specs.internal.ProjectParts.{both_read}
use Rattle.rule_parser.proofs.Composes.{controls_hold}
use Rattle.rule_parser.proofs.project.read_rules.Goals as goal

pub returns-clause-value : goal.returns-clause-value
returns-clause-value c = λ earlier r.
    c.both_read.ensures
    ∙ ap₂ both_read (c.in_ok-tables.ensures earlier r) (c.in_ok-draft.ensures.value earlier r)

pub returns-clause-fits : goal.returns-clause-fits
returns-clause-fits c =
    subst (λ read. IfOk read (λ both. IsDone c.args.network.now.objects both.draft)) (sym c.both_read.ensures)
    (controls_hold (IsDone c.args.network.now.objects) c.in_ok-tables.tables c.in_ok-draft.draft
    c.in_ok-draft.ensures.fits)
