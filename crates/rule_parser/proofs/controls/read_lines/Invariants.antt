use Rattle.std.proofs.Common.{◌≡◌, drop}
use Rattle.rule_parser.specs.Controls.{controls_from, no_draft}
use Rattle.rule_parser.specs.internal.Views.{context_now}
use Rattle.rule_parser.proofs.controls.read_lines.Given as goal

-- the lines from here on give what all lines give
abbrev pub invariant-loop-index : goal.invariant-loop-index
invariant-loop-index l =
    controls_from (context_now l.context) l.draft (drop l.index l.lines)
    ≡ controls_from (context_now l.context) no_draft l.lines
