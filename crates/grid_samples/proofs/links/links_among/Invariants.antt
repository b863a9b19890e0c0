use Rattle.std.proofs.Common.{◌≡◌, ◌++◌, length}
use Rattle.verdict_meaning.specs.Grids.{sample_links}
use Rattle.grid_samples.proofs.links.links_among.Given as goal

-- the links so far and those of the rest are all
abbrev pub invariant-links : goal.invariant-links
invariant-links l =
    l.links.items ++ sample_links l.fn.numbers l.rest l.settings
    ≡ sample_links l.fn.numbers l.fn.tracked l.fn.initial

abbrev pub decreases-links : goal.decreases-links
decreases-links l = length l.rest
