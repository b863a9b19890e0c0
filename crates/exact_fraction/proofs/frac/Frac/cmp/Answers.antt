-- The two products are those of the order.
use Rattle.exact_fraction.proofs.Answered.{timed, compares_passed}
use Rattle.exact_fraction.proofs.frac.Frac.cmp.Goals as goal

pub returns : goal.returns
returns c =
    let p = c.parts-n.ensures in
    let q = c.parts-m.ensures in
    let a = timed _ _ _ _ _ p.num q.den p.num_size q.den_size c.times.ensures.value c.times.ensures.size in
    let b = timed _ _ _ _ _ q.num p.den q.num_size p.den_size c.times-2.ensures.value c.times-2.ensures.size in
    record { value = compares_passed c.args.self.now c.args.o.now _ _ _ a b c.cmp.ensures }
