use Rattle.std.proofs.Common.{◌≡◌, length}
use Rattle.std.specs.List.{list_all}
use Rattle.state_checker.specs.Inside.{entry_fits}
use Rattle.state_checker.proofs.ranges.entries_fit.Given as goal

abbrev pub invariant-keys : goal.invariant-keys
invariant-keys l =
    list_all (entry_fits l.fn.rules l.fn.state) l.rest
    ≡ list_all (entry_fits l.fn.rules l.fn.state) l.fn.keys

abbrev pub decreases-keys : goal.decreases-keys
decreases-keys l = length l.rest
