-- The numerator with its sign turned fits, and the denominator stays.
use Rattle.std.proofs.Common.{ap, ap₂, ◌∙◌, pred}
use Rattle.std.specs.Prelude.{unsigned_abs}
use Rattle.exact_fraction.specs.Operations.{negation_of}
use Rattle.exact_fraction.proofs.Held.{pair, parts_held, narrow, minus_fits, minus_passed, negation_is}
use Rattle.exact_fraction.proofs.frac.Frac.neg.Goals as goal

pub overflow_sub-result : goal.overflow_sub-result
overflow_sub-result c =
    let f = c.self.inside in
    minus_fits f.num (parts_held f.num f.den c.args.self c.self.view_is c.self.invariant).num_size

pub invariant_of-result : goal.invariant_of-result
unfolding negation_of
invariant_of-result c =
    let f = c.self.inside in
    let p = parts_held f.num f.den c.args.self c.self.view_is c.self.invariant in
    rw (narrow f.den p.den_size, minus_passed f.num p.num_size) (c.self.invariant.0, negation_is (pair f.num (pred (unsigned_abs f.den))) c.self.invariant.1)

pub returns : goal.returns
unfolding negation_of
returns c =
    let f = c.self.inside in
    let p = parts_held f.num f.den c.args.self c.self.view_is c.self.invariant in
    record { value = ap₂ (λ n d. pair n (pred (unsigned_abs d))) (minus_passed f.num p.num_size) (narrow f.den p.den_size) ∙ ap negation_of c.self.view_is }
