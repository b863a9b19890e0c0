use Rattle.std.proofs.Common.{◌≡◌, [], None, drop}
use Rattle.report_lines.specs.StateLines.{values_from}
use Rattle.report_lines.proofs.state.read_values.Given as goal

-- the keys from here on give what all keys give
abbrev pub invariant-loop-key : goal.invariant-loop-key
invariant-loop-key l =
    values_from l.body.lines.now l.body.objects.now (drop l.key-index l.key-items) l.so_far.place
    l.so_far.setting l.so_far.values
    ≡ values_from l.body.lines.now l.body.objects.now l.body.grid.now.keys l.at None []
