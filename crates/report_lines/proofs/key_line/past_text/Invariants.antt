use Rattle.std.proofs.Common.{◌≡◌, drop}
use Rattle.report_lines.specs.KeyLines.{past_text}
use Rattle.report_lines.proofs.key_line.past_text.Given as goal

abbrev pub invariant-loop-byte : goal.invariant-loop-byte
invariant-loop-byte l =
    past_text (drop l.byte-index l.text) l.left ≡ past_text l.text l.line
