use Rattle.std.proofs.Common.{◌≡◌, take}
use Rattle.range_lines.specs.internal.Views.{name_finds}
use Rattle.range_lines.proofs.needs.find_by_name.Given as goal

abbrev pub invariant-loop-named : goal.invariant-loop-named
invariant-loop-named l = l.finds.items ≡ name_finds l.given l.names (take l.named-index l.names)
