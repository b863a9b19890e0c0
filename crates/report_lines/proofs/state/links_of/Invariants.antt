use Rattle.std.proofs.Common.{◌≡◌, ◌++◌, drop}
use Rattle.verdict_meaning.specs.Grids.{sample_links}
use Rattle.report_lines.proofs.state.links_of.Given as goal

-- the links so far, and those that are left
abbrev pub invariant-loop-link : goal.invariant-loop-link
invariant-loop-link l =
    l.links ++ sample_links l.values (drop l.link-index l.tracked) l.left
    ≡ sample_links l.values l.tracked l.settings
