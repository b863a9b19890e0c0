-- What a reading of control lines gives fits.
use Rattle.std.proofs.Common.{◌≡◌, List, Result, subst, sym}
use Rattle.std.specs.Prelude.{IfOk}
use Rattle.inp_text.specs.declared.source_line.SourceLine.{SourceLine}
use Rattle.rule_types.specs.declared.refusal.Refusal.{Refusal}
use Rattle.rule_parser.specs.Controls.{Context, no_draft, controls_from}
use Rattle.rule_parser.specs.declared.draft.Draft.{Draft}
use Rattle.rule_parser.specs.internal.Fitting.{IsDone}
use Rattle.rule_parser.proofs.ControlsFit.{controls_fit}

pub read_fits : (context : Context) (lines : List SourceLine) (read : Result Draft Refusal)
    → read ≡ controls_from context no_draft lines → IfOk read (IsDone context.objects)
read_fits context lines read e =
    subst (λ r. IfOk r (IsDone context.objects)) (sym e) (controls_fit context lines)
