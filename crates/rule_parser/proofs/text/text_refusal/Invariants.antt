use Rattle.std.proofs.Common.{◌≡◌, drop}
use Rattle.rule_parser.specs.Projects.{text_refusal}
use Rattle.rule_parser.proofs.text.text_refusal.Given as goal

abbrev pub invariant-loop-line : goal.invariant-loop-line
invariant-loop-line l = text_refusal (drop l.line-index l.lines) ≡ text_refusal l.lines
