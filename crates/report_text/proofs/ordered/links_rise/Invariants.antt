use Rattle.std.proofs.Common.{ℕ, ◌+◌, ◌-◌, ◌<◌, length}
use Rattle.std.specs.Prelude.{slice_index}
use Rattle.report_text.proofs.ordered.links_rise.Given as goal

abbrev pub invariant-links : goal.invariant-links
invariant-links l =
    (0 < l.at) × ((k : ℕ) → k + 1 < l.at → slice_index l.links k < slice_index l.links (k + 1))

abbrev pub decreases-links : goal.decreases-links
decreases-links l = length l.links - l.at
