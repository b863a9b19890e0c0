use Rattle.rule_parser.specs.internal.Views.{context_now}
use Rattle.rule_parser.proofs.ControlsRead.{read_fits}
use Rattle.rule_parser.proofs.controls.read_controls.Goals as goal

pub returns-in-Ok-clause-fits : goal.returns-in-Ok-clause-fits
returns-in-Ok-clause-fits c =
    read_fits (context_now c.args.context) c.args.lines.now c.in-Ok.read c.in-Ok.ensures
