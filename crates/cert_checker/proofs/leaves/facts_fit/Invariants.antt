use Rattle.std.proofs.Common.{◌≡◌, length}
use Rattle.verdict_meaning.specs.Certificates.{facts_fit}
use Rattle.cert_checker.proofs.leaves.facts_fit.Given as goal

abbrev pub invariant-facts : goal.invariant-facts
invariant-facts l =
    facts_fit l.fn.rules l.fn.question l.rest ≡ facts_fit l.fn.rules l.fn.question l.fn.facts

abbrev pub decreases-facts : goal.decreases-facts
decreases-facts l = length l.rest
