use Rattle.std.proofs.Common.{length}
use Rattle.lean_facts.proofs.Passing.{IsKept}
use Rattle.lean_facts.proofs.pass.lean.Given as goal

abbrev pub invariant-facts : goal.invariant-facts
invariant-facts g l =
    IsKept (g.J.Judge.accepts l.judge) (g.J.Judge.fits l.judge) l.fn.facts l.kept.items l.rest

abbrev pub decreases-facts : goal.decreases-facts
decreases-facts g l = length l.rest
