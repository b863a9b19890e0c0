use Rattle.std.proofs.Common.{◌≡◌, ◌+◌, drop}
use Rattle.range_lines.specs.Lines.{lines_read, no_lines}
use Rattle.range_lines.specs.internal.Views.{known_now}
use Rattle.range_lines.proofs.reading.read_lines.Given as goal

-- the lines from here on give what all lines give
abbrev pub invariant-loop-at : goal.invariant-loop-at
invariant-loop-at l =
    lines_read (known_now l.known) (l.at + 1) l.given (drop l.at l.lines)
    ≡ lines_read (known_now l.known) 1 no_lines l.lines
