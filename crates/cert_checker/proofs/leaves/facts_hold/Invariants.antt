use Rattle.std.proofs.Common.{◌≡◌, length}
use Rattle.verdict_meaning.specs.Certificates.{facts_hold}
use Rattle.cert_checker.proofs.leaves.facts_hold.Given as goal

abbrev pub invariant-facts : goal.invariant-facts
invariant-facts l =
    facts_hold l.fn.rules l.fn.cell l.rest ≡ facts_hold l.fn.rules l.fn.cell l.fn.facts

abbrev pub decreases-facts : goal.decreases-facts
decreases-facts l = length l.rest
