use Rattle.std.proofs.Common.{◌≡◌, length}
use Rattle.state_checker.specs.Fits.{links_fit}
use Rattle.state_checker.proofs.fits.links_fit.Given as goal

abbrev pub invariant-links : goal.invariant-links
invariant-links l = links_fit l.rest l.standing ≡ links_fit l.fn.rates l.fn.links

abbrev pub decreases-links : goal.decreases-links
decreases-links l = length l.rest
